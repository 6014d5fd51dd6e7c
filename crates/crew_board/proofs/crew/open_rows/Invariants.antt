use Rattle.std.proofs.Common.{◌≡◌, [], vec_len, All}
use Rattle.crew_board.specs.declared.row.Row.{Row}
use Rattle.crew_board.specs.Rows.{FitsJobs}
use Rattle.crew_board.proofs.crew.open_rows.Given as goal

abbrev pub invariant-loop-worker : goal.invariant-loop-worker
invariant-loop-worker g l = record {
  len : vec_len l.rows ≡ l._worker;
  fits : All (FitsJobs l.jobs) l.rows.items;
  none : All (λ (row : Row g.row.S.Denot). row.drawn.items ≡ []) l.rows.items;
}
