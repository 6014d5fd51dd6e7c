-- Numbers as bytes.
use Rattle.std.specs.Prelude.{ℕ, ◌+◌, ◌*◌, List, fold}

-- the number that bytes spell, the most significant first
abbrev pub number_of : List ℕ → ℕ
number_of bytes = fold (λ n b. n * 256 + b) 0 bytes
