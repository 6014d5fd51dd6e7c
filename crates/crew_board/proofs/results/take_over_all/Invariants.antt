use Rattle.std.proofs.Common.{◌≡◌, ℕ, ◌<◌, ◌≤◌, [], length, get_or, All}
use Rattle.crew_board.specs.declared.row.Row.{Row}
use Rattle.crew_board.specs.Claim.{times_in}
use Rattle.crew_board.specs.Work.{AreDone, StayRight}
use Rattle.crew_board.specs.Rows.{FitsJobs, IsWorked, draws_of}
use Rattle.crew_board.proofs.results.take_over_all.Given as goal

abbrev pub invariant-loop-row : goal.invariant-loop-row
invariant-loop-row g l = record {
  first : FitsJobs (length l.tasks) l.first;
  fits : All (FitsJobs (length l.tasks)) l.rows;
  len : length l.rows ≡ length l.initial.rows;
  drawn : l.first.drawn.items ≡ l.initial.first.drawn.items;
  draws : draws_of l.rows ≡ draws_of l.initial.rows;
  worked : (k : ℕ) (d : Row g.row.S.Denot) → l.row-index ≤ k → k < length l.rows → IsWorked g.T.Task.leaves l.tasks (get_or l.rows k d);
  done : (k : ℕ) → k < l.row-index → AreDone g.T.Task.leaves l.tasks l.first.scratches.items (get_or (draws_of l.initial.rows) k []);
  others : (job : ℕ) (s : g.row.S.Denot) → times_in job (draws_of l.initial.rows) ≡ 0 → get_or l.first.scratches.items job s ≡ get_or l.initial.first.scratches.items job s;
  kept : StayRight g.T.Task.leaves l.tasks l.initial.first.scratches.items l.first.scratches.items;
}
