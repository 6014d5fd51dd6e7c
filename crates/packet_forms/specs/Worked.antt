-- A command whose fields all differ.
use Rattle.std.specs.Prelude.{ℕ, List, [], ◌∷◌}

-- id 0x1A5B, flags 3 and the count 0x1234, 12 bytes, the code 0x2C below a high bit, the checksum byte, four bytes of payload
abbrev pub worked_command : List ℕ
worked_command =
    0x1A ∷ 0x5B ∷ 0xD2 ∷ 0x34 ∷ 0x00 ∷ 0x05 ∷ 0xAC ∷ 0xB1 ∷ 0x11 ∷ 0x23 ∷ 0x35 ∷ 0x47
    ∷ []
