use Rattle.std.proofs.Common.{◌≡◌, ◌*◌, drop}
use Rattle.row_forms.specs.Words.{hex_said}
use Rattle.row_forms.proofs.BlockLemmas.{onto}
use Rattle.row_forms.proofs.values.read_block.Given as goal

abbrev pub invariant-loop-i : goal.invariant-loop-i
invariant-loop-i l = onto l.fn.out.items (hex_said l.text) ≡ onto l.out.items (hex_said (drop (2 * l.i) l.text))
