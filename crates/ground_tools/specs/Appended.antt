-- Bytes behind others.
use Rattle.std.specs.Prelude.{◌≡◌, ℕ, List, ◌++◌}

-- some bytes were appended
abbrev pub Appends : List ℕ → List ℕ → Type 0
Appends old new = (more : List ℕ) × (new ≡ old ++ more)
