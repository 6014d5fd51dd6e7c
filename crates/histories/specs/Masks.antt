-- Masks.
use Rattle.std.specs.Prelude.{ℕ, ◌+◌, ◌*◌, Bool, if◌then◌else◌, List, [], ◌∷◌}

-- The number whose bits are these, the lowest first.
unfoldable pub bits_of : List Bool → ℕ
bits_of [] = 0
bits_of (bit ∷ bits) = (if bit then 1 else 0) + 2 * bits_of bits
