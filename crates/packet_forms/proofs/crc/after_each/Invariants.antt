use Rattle.std.proofs.Common.{◌≡◌, take}
use Rattle.packet_forms.specs.Crc.{crc_of}
use Rattle.packet_forms.proofs.crc.after_each.Given as goal

-- the bytes so far
abbrev pub invariant-loop-byte : goal.invariant-loop-byte
invariant-loop-byte l = l.crc ≡ crc_of l.start (take l.byte-index l.bytes)
