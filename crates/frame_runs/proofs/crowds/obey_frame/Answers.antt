use Rattle.std.proofs.Common.{map}
use Rattle.frame_wires.specs.Sending.{shown}
use Rattle.frame_runs.proofs.Obeying.{obeyed_reset, obeyed_alone}
use Rattle.frame_runs.proofs.crowds.obey_frame.Goals as goal

pub returns-then-resets-clause-subjects : goal.returns-then-resets-clause-subjects
returns-then-resets-clause-subjects g c =
    obeyed_reset c.args.resets (shown c.args.lists.now) (map g.S.Subject.seen c.args.crowd.now.subjects) (map g.S.Subject.seen c.obey_lists.new.crowd.subjects) (map g.S.Subject.seen c.restart_all.new.self.subjects)
    c.if-resets.true c.obey_lists.ensures.subjects c.restart_all.ensures.subjects

pub returns-else-resets-clause-subjects : goal.returns-else-resets-clause-subjects
returns-else-resets-clause-subjects g c =
    obeyed_alone c.args.resets (shown c.args.lists.now) (map g.S.Subject.seen c.args.crowd.now.subjects) (map g.S.Subject.seen c.obey_lists.new.crowd.subjects) c.if-resets.false c.obey_lists.ensures.subjects
