-- A list of zeros.
use Rattle.std.specs.Prelude.{ℕ, List, replicate}

-- n zeros
unfoldable pub zeros : ℕ → List ℕ
zeros n = replicate n 0
