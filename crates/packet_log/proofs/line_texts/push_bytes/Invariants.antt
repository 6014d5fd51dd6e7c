use Rattle.std.proofs.Common.{◌≡◌, ◌+◌, ◌*◌, ◌++◌, length, take}
use Rattle.packet_forms.specs.Hex.{hex}
use Rattle.packet_log.proofs.line_texts.push_bytes.Given as goal

-- the digits of the bytes so far stand behind what stood there
abbrev pub invariant-bytes : goal.invariant-bytes
invariant-bytes l = record {
  value : l.line.bytes ≡ l.fn.line.bytes ++ hex (take l.byte-index l.bytes);
  size : length l.line.bytes ≡ length l.fn.line.bytes + 2 * l.byte-index;
}
