-- Numbers of two and four bytes, the most significant byte first.
use Rattle.std.specs.Prelude.{ℕ, ◌+◌, ◌*◌, ◌/◌, ◌%◌, List, [], ◌∷◌, slice_index}

-- the number of the two bytes from place `at` on
unfoldable pub be16_at : List ℕ → ℕ → ℕ
be16_at bytes at = slice_index bytes at * 256 + slice_index bytes (at + 1)

-- the number of the four bytes from place `at` on
unfoldable pub be32_at : List ℕ → ℕ → ℕ
be32_at bytes at =
    slice_index bytes at * 16777216 + slice_index bytes (at + 1) * 65536 + slice_index bytes (at + 2) * 256
    + slice_index bytes (at + 3)

-- the two low bytes of a number
unfoldable pub be16_bytes : ℕ → List ℕ
be16_bytes n = n / 256 % 256 ∷ n % 256 ∷ []

-- the four low bytes of a number
unfoldable pub be32_bytes : ℕ → List ℕ
be32_bytes n = n / 16777216 % 256 ∷ n / 65536 % 256 ∷ n / 256 % 256 ∷ n % 256 ∷ []
