use Rattle.std.proofs.Common.{◌≡◌, ◌+◌, ◌≤◌, length, map}
use Rattle.row_forms.specs.Rows.{with_front}
use Rattle.load_books.specs.Cuts.{whole_lines}
use Rattle.load_books.specs.Contents.{file_text}
use Rattle.load_books.specs.Naming.{plan_said}
use Rattle.load_books.proofs.naming.put_plan.Given as goal

abbrev pub invariant-lines : goal.invariant-lines
invariant-lines l = record {
  said : with_front l.fn.out.items (plan_said l.part (map file_text l.files) 1 (whole_lines l.text)) ≡ with_front l.out.items (plan_said l.part (map file_text l.files) l.number (whole_lines l.rest));
  room : l.number + length l.rest ≤ 1 + length l.text;
}

abbrev pub decreases-lines : goal.decreases-lines
decreases-lines l = length l.rest
