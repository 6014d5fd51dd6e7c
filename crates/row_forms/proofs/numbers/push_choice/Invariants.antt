use Rattle.std.proofs.Common.{◌≡◌, drop}
use Rattle.row_forms.specs.Numbers.{choice_shown}
use Rattle.row_forms.proofs.numbers.push_choice.Given as goal

abbrev pub invariant-loop-choice : goal.invariant-loop-choice
invariant-loop-choice l = record {
  kept : l.out.items ≡ l.fn.out.items;
  shown : choice_shown l.choices l.number ≡ choice_shown (drop l.choice-index l.choices) l.number;
}
