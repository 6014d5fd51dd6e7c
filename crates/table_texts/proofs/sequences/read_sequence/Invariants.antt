use Rattle.std.proofs.Common.{◌≡◌, ◌+◌, ◌≤◌, length}
use Rattle.row_forms.specs.Rows.{with_front}
use Rattle.table_texts.specs.Lines.{kept_of}
use Rattle.table_texts.specs.Sequences.{said_by}
use Rattle.table_texts.proofs.sequences.read_sequence.Given as goal

abbrev pub invariant-lines : goal.invariant-lines
invariant-lines l = record {
  said : with_front l.fn.out.items (said_by l.form l.line (kept_of l.line l.text)) ≡ with_front l.out.items (said_by l.form l.number (kept_of l.number l.rest));
  room : l.number + length l.rest ≤ l.line + length l.text;
}

abbrev pub decreases-lines : goal.decreases-lines
decreases-lines l = length l.rest
