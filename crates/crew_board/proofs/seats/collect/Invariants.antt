use Rattle.std.proofs.Common.{◌≡◌, ℕ, ◌<◌, ◌≤◌, true, [], length, get_or, take, All}
use Rattle.crew_board.specs.declared.row.Row.{Row}
use Rattle.crew_board.specs.Rows.{IsWorked, HasEnded, draws_of, first_scratches}
use Rattle.crew_board.specs.Seats.{AreEnds}
use Rattle.crew_board.proofs.seats.collect.Given as goal

abbrev pub invariant-loop-row : goal.invariant-loop-row
invariant-loop-row g l = record {
  table : l.first.table_id ≡ l.word.table_id;
  slots : l.first.me.1 ≡ [];
  first : l.first.me.0.first ≡ true;
  split : l.first.me.0.split ≡ length l.initial.rows;
  lists : AreEnds l.chosen (take l.row-index (draws_of l.initial.rows)) l.first.me.0.lists;
  len : length l.rows ≡ length l.initial.rows;
  worked : All (IsWorked g.T.Task.leaves l.tasks) l.rows;
  draws : draws_of l.rows ≡ draws_of l.initial.rows;
  scratches : first_scratches l.rows ≡ first_scratches l.initial.rows;
  ended : (k : ℕ) (d : Row g.row.S.Denot) → l.row-index ≤ k → k < length l.rows → HasEnded l.word.table_id l.chosen (get_or l.rows k d);
}
