-- The cyclic redundancy check CRC-16/ARC: 16 bits, the polynomial 0xA001, each byte's lowest bit first, no final change.
use Rattle.std.specs.Prelude.{ℕ, zero, suc, ◌+◌, ◌/◌, ◌%◌, ◌==◌, if◌then◌else◌, List, [], ◌∷◌, flat_map, bit_xor}
use Rattle.std.specs.List.{fold}

-- the n lowest bits of a number, the lowest first
unfoldable pub low_bits : ℕ → ℕ → List ℕ
low_bits zero m = []
low_bits (suc n) m = m % 2 ∷ low_bits n (m / 2)

-- a check after one bit: half of it, and where the check and the bit together are odd, the exclusive or of that with 0xA001
unfoldable pub crc_bit : ℕ → ℕ → ℕ
crc_bit c b = if (c + b) % 2 == 1 then bit_xor (c / 2) 0xA001 else c / 2

-- a check after these bytes: each byte's eight bits, the lowest first
unfoldable pub crc_of : ℕ → List ℕ → ℕ
crc_of c bytes = fold crc_bit c (flat_map (low_bits 8) bytes)

-- a check after n bits 0
unfoldable pub after_zeros : ℕ → ℕ → ℕ
after_zeros zero c = c
after_zeros (suc n) c = after_zeros n (crc_bit c 0)
