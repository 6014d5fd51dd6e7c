use Rattle.std.proofs.Common.{◌++◌}
use Rattle.frame_exec.proofs.Behind.{has_beside, ready_beside, begins_behind, cut_flushed}
use Rattle.frame_exec.proofs.bench.Bench.flush.Goals as goal

pub returns-in-Ok-clause-follows : goal.returns-in-Ok-clause-follows
returns-in-Ok-clause-follows g c = λ setup earlier later follows.
    begins_behind _ setup (earlier ++ later) follows.epoch follows.files follows.well (has_beside c.args.self.now c.flush.new.self _ _ _ _ follows.has)
    (ready_beside c.args.self.now c.flush.new.self _ _ _ follows.ready) follows.idle c.in-Ok.ensures.handed

pub returns-in-Err-clause-cut : goal.returns-in-Err-clause-cut
returns-in-Err-clause-cut g c = λ setup earlier later follows.
    cut_flushed setup earlier later c.args.self.now.lines.block c.flush.new.self _ _ _ (c.flush.ensures.notes _ _ follows.notes) c.in-Err.ensures.left c.flush.ensures.told c.cut.ensures.late
