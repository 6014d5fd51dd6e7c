-- Bytes of worked rows, written by hand from docs/FILES.md.
use Rattle.std.specs.Prelude.{ℕ, List, [], ◌∷◌, ◌++◌, replicate, slice_set}

-- a command packet of 9 bytes, and one of 8
abbrev pub nine_bytes : List ℕ
nine_bytes = 0x18 ∷ 0xA9 ∷ 0xC1 ∷ 0x23 ∷ 0x00 ∷ 0x02 ∷ 0x04 ∷ 0x5C ∷ 0x77 ∷ []

abbrev pub eight_bytes : List ℕ
eight_bytes = 0x18 ∷ 0x88 ∷ 0xC0 ∷ 0x00 ∷ 0x00 ∷ 0x01 ∷ 0x00 ∷ 0xAE ∷ []

-- an entry of an absolute time sequence: number 0x0123, time 0x04050607
abbrev pub timed_bytes : List ℕ
timed_bytes = 0x01 ∷ 0x23 ∷ 0x04 ∷ 0x05 ∷ 0x06 ∷ 0x07 ∷ nine_bytes

-- an entry of a relative one: 0x0102 seconds
abbrev pub relative_bytes : List ℕ
relative_bytes = 0x01 ∷ 0x02 ∷ nine_bytes

-- entries of the numbers 7, 5 and 3 at the times 0x0200, 0x0200 and 0x0100
abbrev pub three_timed : List ℕ
three_timed =
    (0x00 ∷ 0x07 ∷ 0x00 ∷ 0x00 ∷ 0x02 ∷ 0x00 ∷ eight_bytes) ++ (0x00 ∷ 0x05 ∷ 0x00 ∷ 0x00 ∷ 0x02 ∷ 0x00 ∷ nine_bytes) ++ (0x00 ∷ 0x03 ∷ 0x00 ∷ 0x00 ∷ 0x01 ∷ 0x00 ∷ eight_bytes)

-- an entry of an absolute time sequence with this number and a packet of 8 bytes
abbrev pub numbered : ℕ → ℕ → List ℕ
numbered high low = high ∷ low ∷ 0x00 ∷ 0x00 ∷ 0x02 ∷ 0x00 ∷ eight_bytes

-- a packet of 8 bytes in which one byte is another
abbrev pub changed : ℕ → ℕ → List ℕ
changed at byte = slice_set eight_bytes at byte

-- a command packet that says that it has 256 bytes, with so many behind its header
abbrev pub long_bytes : ℕ → List ℕ
long_bytes n = (0x18 ∷ 0x88 ∷ 0xC0 ∷ 0x00 ∷ 0x00 ∷ 0xF9 ∷ []) ++ replicate n 0x55
