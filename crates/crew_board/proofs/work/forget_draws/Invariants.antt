use Rattle.std.proofs.Common.{◌≡◌, ℕ, ◌<◌, [], length, get_or, All}
use Rattle.crew_board.specs.declared.row.Row.{Row}
use Rattle.crew_board.specs.Rows.{FitsJobs, first_scratches}
use Rattle.crew_board.proofs.work.forget_draws.Given as goal

abbrev pub invariant-loop-row : goal.invariant-loop-row
invariant-loop-row g l = record {
  len : length l.rows ≡ length l.initial.rows;
  fits : All (FitsJobs (length l.tasks)) l.rows;
  none : (k : ℕ) (d : Row g.row.S.Denot) → k < l.row-index → (get_or l.rows k d).drawn.items ≡ [];
  scratches : first_scratches l.rows ≡ first_scratches l.initial.rows;
}
