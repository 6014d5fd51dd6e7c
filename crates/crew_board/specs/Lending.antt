-- What a crew ends as, where a `&mut` to one of its results is returned.
use Rattle.std.specs.Prelude.{ℕ, slice_set}
use Rattle.std.specs.Borrow.{Lends, Fml, RattleType, MutBor}
use Rattle.crew_board.specs.Seen.{Seen}
use Rattle.crew_board.specs.contracts.crew.Crew.{the_row}

-- with another result of a job
abbrev pub with_result : {S : Type 0} → Seen S → ℕ → S → Seen S
with_result seen job result = record { jobs = seen.jobs; results = slice_set seen.results job result; drawn = seen.drawn }

module _ (S : RattleType) (crew : MutBor (Seen S.Denot)) where
  -- once the borrow ends, the job has the last value that was written through it
  abbrev pub lends_result : ℕ → MutBor S.Denot → Fml
  lends_result job result = Lends (the_row S) S crew result (with_result crew.now job)
