use Rattle.std.proofs.Common.{◌≡◌, ◌++◌, take}
use Rattle.packet_forms.specs.Hex.{hex}
use Rattle.row_forms.proofs.parts.push_hex.Given as goal

abbrev pub invariant-loop-byte : goal.invariant-loop-byte
invariant-loop-byte l = l.out.items ≡ l.fn.out.items ++ hex (take l.byte-index l.bytes)
