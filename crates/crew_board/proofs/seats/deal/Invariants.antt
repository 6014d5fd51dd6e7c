use Rattle.std.proofs.Common.{◌≡◌, ℕ, ◌<◌, [], length, get_or, All}
use Rattle.crew_board.specs.declared.row.Row.{Row}
use Rattle.crew_board.specs.Board.{seated}
use Rattle.crew_board.specs.Rows.{FitsJobs, HasSeat, first_scratches}
use Rattle.crew_board.specs.Seats.{split_off}
use Rattle.crew_board.proofs.seats.deal.Given as goal

abbrev pub invariant-loop-row : goal.invariant-loop-row
invariant-loop-row g l = record {
  table : l.first.table_id ≡ l.word.table_id;
  me : l.first.me ≡ (split_off l.row-index [], []);
  len : length l.rows ≡ length l.initial.rows;
  fits : All (FitsJobs (length l.tasks)) l.rows;
  scratches : first_scratches l.rows ≡ first_scratches l.initial.rows;
  seats : (k : ℕ) (d : Row g.row.S.Denot) → k < l.row-index → HasSeat l.word.table_id seated (get_or l.rows k d);
}
