use Rattle.std.proofs.Common.{◌≡◌, drop}
use Rattle.row_forms.specs.Numbers.{choice_said}
use Rattle.row_forms.proofs.numbers.choice_number.Given as goal

abbrev pub invariant-loop-choice : goal.invariant-loop-choice
invariant-loop-choice l = choice_said l.most l.choices l.text ≡ choice_said l.most (drop l.choice-index l.choices) l.text
