use Rattle.std.proofs.Common.{◌≡◌, ◌+◌, ◌≤◌, ◌++◌, length}
use Rattle.table_texts.specs.Lines.{kept_of}
use Rattle.shown_plans.specs.Shown.{lines_shown, plan_shown}
use Rattle.shown_plans.proofs.plan.show_lines.Given as goal

abbrev pub invariant-lines : goal.invariant-lines
invariant-lines l = record {
  shown : l.fn.out.items ++ plan_shown l.commands l.text ≡ l.out.items ++ lines_shown l.commands l.ended.told l.ended.come (kept_of l.number l.rest);
  room : l.number + length l.rest ≤ 1 + length l.text;
  few : l.ended.come + length l.rest ≤ length l.text;
}

abbrev pub decreases-lines : goal.decreases-lines
decreases-lines l = length l.rest
