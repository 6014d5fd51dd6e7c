use Rattle.std.proofs.Common.{map}
use Rattle.frame_runs.proofs.Obeying.{obeyed_nothing}
use Rattle.frame_exec.specs.Parts.{items_in}
use Rattle.app_suite.specs.Wakes.{joined}
use Rattle.frame_exec.proofs.bench.Bench.tell.Goals as goal

pub returns-then-gave_nothing-clause-subjects : goal.returns-then-gave_nothing-clause-subjects
returns-then-gave_nothing-clause-subjects g c =
    obeyed_nothing c.args.self.now.resets (joined (items_in c.args.self.now.apps)) (map g.S.Subject.seen c.args.crowd.now.subjects) c.if-not-self.true (c.gave_nothing.ensures c.if-gave_nothing.true)
