use Rattle.std.proofs.Common.{◌≡◌, ◌*◌, take}
use Rattle.packet_forms.specs.Crc.{crc_of}
use Rattle.packet_forms.proofs.crc.after_blocks.Given as goal

-- the blocks so far
abbrev pub invariant-loop-k : goal.invariant-loop-k
invariant-loop-k l = l.crc ≡ crc_of l.start (take (8 * l.k) l.bytes)
