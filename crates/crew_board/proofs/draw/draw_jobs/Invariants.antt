use Rattle.std.proofs.Common.{◌≡◌, ◌-◌, length}
use Rattle.crew_board.specs.Rows.{HasDrawn, IsWorked}
use Rattle.crew_board.specs.Work.{StayBut}
use Rattle.crew_board.proofs.draw.draw_jobs.Given as goal

abbrev pub invariant-loop-place : goal.invariant-loop-place
invariant-loop-place g l = record {
  worked : IsWorked g.T.Task.leaves l.tasks l.row;
  table : l.seat.table_id ≡ l.word.table_id;
  drew : HasDrawn l.chosen l.place l.seat l.row;
  others : StayBut l.chosen l.initial.row.scratches.items l.row.scratches.items;
}

abbrev pub decreases-loop-place : goal.decreases-loop-place
decreases-loop-place g l = length l.chosen - l.place
