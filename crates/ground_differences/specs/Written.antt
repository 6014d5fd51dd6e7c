-- What is written behind what was there.
use Rattle.std.specs.Prelude.{ℕ, List, Option}
use Rattle.std.specs.Io.KnownBytes.{Appends}

-- Bytes were written behind those that were there.
pub record IsWrittenOn (before after : Option (List ℕ)) : Type 0 where
  pub bytes : List ℕ
  pub written : Appends before after bytes
