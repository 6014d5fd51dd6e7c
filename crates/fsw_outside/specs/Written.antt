-- What writing a whole text does to the bytes that a sink holds.
use Rattle.std.specs.Prelude.{◌≡◌, ℕ, ◌<◌, List, ◌++◌, length, take, Result, MatchResult}

-- The new bytes are the old ones with a part of the text behind them, from the text's front, and not all of it.
pub record AppendsPart (text old new : List ℕ) : Type 0 where
  pub count : ℕ
  pub short : count < length text
  pub appended : new ≡ old ++ take count text

-- All of the text is appended where the call succeeded, and a proper first part of it where it failed.
abbrev pub WritesAll : {T E : Type 0} → Result T E → List ℕ → List ℕ → List ℕ → Type 0
WritesAll result text old new = MatchResult result (λ _. new ≡ old ++ text) (λ _. AppendsPart text old new)
