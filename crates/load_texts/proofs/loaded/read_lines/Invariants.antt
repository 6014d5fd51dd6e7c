use Rattle.std.proofs.Common.{◌≡◌, ◌+◌, ◌≤◌, length}
use Rattle.row_forms.specs.Rows.{with_front}
use Rattle.table_texts.specs.Lines.{kept_of}
use Rattle.load_texts.specs.Loaded.{loaded_said}
use Rattle.load_texts.proofs.loaded.read_lines.Given as goal

abbrev pub invariant-lines : goal.invariant-lines
invariant-lines l = record {
  said : with_front l.fn.out.items (loaded_said l.line (kept_of l.line l.text)) ≡ with_front l.out.items (loaded_said l.number (kept_of l.number l.rest));
  room : l.number + length l.rest ≤ l.line + length l.text;
}

abbrev pub decreases-lines : goal.decreases-lines
decreases-lines l = length l.rest
