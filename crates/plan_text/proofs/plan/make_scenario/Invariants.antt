use Rattle.std.proofs.Common.{◌≡◌, ◌+◌, ◌≤◌, length}
use Rattle.table_texts.specs.Lines.{kept_of}
use Rattle.plan_text.specs.Plans.{scenario_said, with_text, lines_said}
use Rattle.plan_text.proofs.plan.make_scenario.Given as goal

abbrev pub invariant-lines : goal.invariant-lines
invariant-lines l = record {
  said : scenario_said l.commands l.text ≡ with_text l.out.items (lines_said l.commands l.stage l.number (kept_of l.number l.rest));
  room : l.number + length l.rest ≤ 1 + length l.text;
}

abbrev pub decreases-lines : goal.decreases-lines
decreases-lines l = length l.rest
