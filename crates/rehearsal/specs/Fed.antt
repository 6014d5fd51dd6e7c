-- How far the reading of the scenario's file has come.
use Rattle.std.specs.Prelude.{ℕ, List, [], Bool, false}

-- the bytes that were read and aren't fed yet, how many were read so far, and whether the file's end was reached
pub record Fed : Type 0 where
  pub pending : List ℕ
  pub total : ℕ
  pub ended : Bool

-- nothing was read
abbrev pub nothing_read : Fed
nothing_read = record { pending = []; total = 0; ended = false }
