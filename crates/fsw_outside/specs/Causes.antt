-- When a call may answer that the outside failed.
use Rattle.std.specs.Prelude.{◌≡◌, ℕ, ◌+◌, ◌-◌, ◌^◌, ◌<◌, ◌≤◌, min, Option, Result, IsSome, OnOk, OnErr}

-- The count of faults rose. Where the object doesn't tell its content, a count that stands at the last value of a u64 counts as risen.
pub record HasRisen {A : Type 0} (told : Option A) (before now : ℕ) : Type 0 where
  pub risen : min (before + 1) (2 ^ 64 - 1) ≤ now
  pub strictly : IsSome told → before < now

-- An answer of a call, by the count of faults before it and after it: the count never falls, an Ok leaves it,
-- and an Err comes only where it rose.
pub record HasCause {A T E : Type 0} (told : Option A) (before now : ℕ) (result : Result T E) : Type 0 where
  pub later : before ≤ now
  pub kept : OnOk result (now ≡ before)
  pub failed : OnErr result (HasRisen told before now)
