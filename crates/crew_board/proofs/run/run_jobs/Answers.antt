use Rattle.std.proofs.Common.{refl}
use Rattle.crew_board.proofs.Rows.{shared_left}
use Rattle.crew_board.proofs.run.run_jobs.Goals as goal

pub returns-then-used-le1-clause-draws : goal.returns-then-used-le1-clause-draws
returns-then-used-le1-clause-draws g c = shared_left g.T.Task.leaves c.args.tasks.now c.args.chosen.now c.draw_alone.new.rows c.draw_alone.new.rows _ c.draw_alone.ensures.shared refl c.draw_alone.ensures.len
