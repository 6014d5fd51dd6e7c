use Rattle.std.proofs.Common.{◌≡◌, ◌+◌, ◌≤◌, ◌++◌, length}
use Rattle.table_texts.specs.Lines.{kept_of}
use Rattle.shown_plans.specs.Shown.{plain_lines, plain_of}
use Rattle.shown_plans.proofs.plain.put_lines.Given as goal

abbrev pub invariant-lines : goal.invariant-lines
invariant-lines l = record {
  plain : l.fn.out.items ++ plain_of l.text ≡ l.out.items ++ plain_lines (kept_of l.number l.rest);
  room : l.number + length l.rest ≤ 1 + length l.text;
}

abbrev pub decreases-lines : goal.decreases-lines
decreases-lines l = length l.rest
