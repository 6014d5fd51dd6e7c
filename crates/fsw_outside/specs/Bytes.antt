-- What a write does to the bytes that a sink holds.
use Rattle.std.specs.Prelude.{◌≡◌, ℕ, List, ◌++◌, take, Result, MatchResult}

-- The bytes held grow by the first n of the piece where the call answered n, and stay where it failed.
abbrev pub Writes : {E : Type 0} → Result ℕ E → List ℕ → List ℕ → List ℕ → Type 0
Writes result piece old new = MatchResult result (λ n. new ≡ old ++ take n piece) (λ _. new ≡ old)
