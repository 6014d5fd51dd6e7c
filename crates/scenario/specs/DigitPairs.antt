-- What the digits of a pair add to its byte.
use Rattle.std.specs.Prelude.{ℕ, ◌+◌, ◌-◌, ◌*◌, ◌%◌, ◌==◌, min, bit_and, Bool, nat_le, List, [], ◌∷◌, if◌then◌else◌}
use Rattle.std.specs.Char.{is_digit, digit_value}

-- the higher digit, where it is one
abbrev pub high_value : ℕ → ℕ
high_value b = if is_digit b 16 then 16 * digit_value b else 256

-- the lower digit, where it is one
abbrev pub low_value : ℕ → ℕ
low_value b = if is_digit b 16 then digit_value b else 256

-- a value is that of the byte as a digit, and 16 or more where the byte is none
abbrev pub holds_value : ℕ → ℕ → Bool
holds_value b value = if is_digit b 16 then value == digit_value b else nat_le 16 value

-- the same, as vectors compute it
abbrev pub lane_value : ℕ → ℕ
lane_value b = min (((b + 198) % 256 - 6 + 16) % 256) (min ((bit_and b 223 + 191) % 256 + 10) 255)

-- the bytes that values of digits write, two each
abbrev pub joined_pairs : List ℕ → List ℕ
joined_pairs [] = []
joined_pairs (high ∷ []) = []
joined_pairs (high ∷ low ∷ values) = (16 * high + low) ∷ joined_pairs values
