use Rattle.frame_runs.specs.RunLaws.{log_none, log_more}
use Rattle.frame_runs.proofs.Frames.{run_none, run_more, run_number}
use Rattle.frame_runs.proofs.laws.runs_go_on.Goals as goal

pub returns-clause-none : goal.returns-clause-none
returns-clause-none c = log_none

pub returns-clause-more : goal.returns-clause-more
returns-clause-more c = log_more

pub returns-clause-start : goal.returns-clause-start
returns-clause-start c = run_none

pub returns-clause-state : goal.returns-clause-state
returns-clause-state c = run_more

pub returns-clause-number : goal.returns-clause-number
returns-clause-number c = run_number
