use Rattle.std.proofs.Common.{◌≡◌, ◌*◌, take, drop, length}
use Rattle.row_forms.proofs.BlockLemmas.{onto}
use Rattle.log_lines.specs.Lines.{bytes_said}
use Rattle.log_lines.proofs.numbers.read_bytes.Given as goal

abbrev pub invariant-loop-i : goal.invariant-loop-i
invariant-loop-i l = record {
  said : bytes_said l.word ≡ onto (take l.i l.places) (bytes_said (drop (2 * l.i) l.word));
  room : length l.places ≡ 320;
}
