use Rattle.std.proofs.Common.{Bool, not, ap}
use Rattle.app_suite.specs.Applications.{lc_setup, lc_gives}
use Rattle.frame_runs.specs.Runs.{lc_input_at}
use Rattle.app_suite.specs.Wakes.{unless}
use Rattle.frame_runs.proofs.Frames.{run_watched, run_limits}
use Rattle.frame_runs.proofs.laws.limit_checker_is_there.Goals as goal

pub returns-clause-there : goal.returns-clause-there
returns-clause-there c = run_watched

pub returns-clause-away : goal.returns-clause-away
returns-clause-away c = run_limits

pub returns-clause-silent : goal.returns-clause-silent
returns-clause-silent c setup s frame away = ap (λ (watched : Bool). unless (not watched) (lc_gives (lc_setup s.tables) s.lc (lc_input_at setup s))) away
