use Rattle.std.proofs.Common.{◌≡◌, length}
use Rattle.crew_board.specs.Work.{StayBut}
use Rattle.crew_board.proofs.Exchanges.{Exchanged}
use Rattle.crew_board.proofs.results.exchange.Given as goal

abbrev pub invariant-loop-job : goal.invariant-loop-job
invariant-loop-job g l = record {
  results : length l.results ≡ length l.tasks;
  from : length l.from ≡ length l.tasks;
  exchanged : Exchanged g.T.Task.leaves l.tasks l.initial.results l.results l.from l.jobs l.job-index;
  others : StayBut l.jobs l.initial.results l.results;
}
