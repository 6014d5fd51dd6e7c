-- Bytes in hexadecimal digits.
use Rattle.std.specs.Prelude.{ℕ, ◌+◌, ◌/◌, ◌%◌, if◌then◌else◌, List, [], ◌∷◌, map, nat_lt}
use Rattle.std.specs.List.{flat_map}

-- a hexadecimal digit, in upper case
abbrev pub hex_digit : ℕ → ℕ
hex_digit n = if nat_lt n 10 then 48 + n else 55 + n

-- the two digits of a byte
abbrev pub hex_pair : ℕ → List ℕ
hex_pair b = hex_digit (b / 16) ∷ hex_digit (b % 16) ∷ []

-- bytes in hexadecimal digits
unfoldable pub hex : List ℕ → List ℕ
hex bytes = flat_map hex_pair bytes

-- the halves of each byte, the higher one first
unfoldable pub halves : List ℕ → List ℕ
halves bytes = flat_map (λ b. b / 16 ∷ b % 16 ∷ []) bytes

unfoldable pub hex_digits : List ℕ → List ℕ
hex_digits numbers = map hex_digit numbers
