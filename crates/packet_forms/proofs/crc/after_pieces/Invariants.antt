use Rattle.std.proofs.Common.{◌≡◌, ◌*◌, take}
use Rattle.packet_forms.specs.Crc.{crc_of}
use Rattle.packet_forms.proofs.crc.after_pieces.Given as goal

-- the pieces so far
abbrev pub invariant-loop-k : goal.invariant-loop-k
invariant-loop-k l = l.crc ≡ crc_of l.start (take (1024 * l.k) l.bytes)
