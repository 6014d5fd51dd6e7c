-- The tally of bytes, and how bytes are added to it.
use Rattle.std.specs.Prelude.{◌≡◌, ℕ, ◌+◌, ◌%◌, ◌^◌, ◌==◌, List, length, take, count_by, Result, MatchResult}
use Rattle.packet_forms.specs.Crc.{crc_of}

-- how many LFs and how many bytes there are, both modulo 2^64, and the check of all bytes
pub record Tally : Type 0 where
  pub lines : ℕ
  pub bytes : ℕ
  pub crc : ℕ

-- how many of these bytes are LFs
abbrev pub line_ends : List ℕ → ℕ
line_ends bytes = count_by (λ b. b == 10) bytes

unfoldable pub tally_of : List ℕ → Tally
tally_of bytes = record { lines = line_ends bytes % 2 ^ 64; bytes = length bytes % 2 ^ 64; crc = crc_of 0 bytes }

-- a tally to which bytes are added
unfoldable pub added : Tally → List ℕ → Tally
added t bytes = record { lines = (t.lines + line_ends bytes) % 2 ^ 64; bytes = (t.bytes + length bytes) % 2 ^ 64; crc = crc_of t.crc bytes }

-- The first n of the piece are added where the call answered n, and the tally stays where it failed.
abbrev pub Adds : {E : Type 0} → Result ℕ E → List ℕ → Tally → Tally → Type 0
Adds result piece old new = MatchResult result (λ n. new ≡ added old (take n piece)) (λ _. new ≡ old)
