use Rattle.std.proofs.Common.{◌≡◌, take}
use Rattle.crew_board.specs.Rows.{IsWorked}
use Rattle.crew_board.specs.Work.{StayBut}
use Rattle.crew_board.proofs.work.perform_all.Given as goal

abbrev pub invariant-loop-job : goal.invariant-loop-job
invariant-loop-job g l = record {
  worked : IsWorked g.T.Task.leaves l.tasks l.row;
  drawn : l.row.drawn.items ≡ take l.job-index l.chosen;
  others : StayBut l.chosen l.initial.row.scratches.items l.row.scratches.items;
}
