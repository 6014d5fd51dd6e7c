use Rattle.std.proofs.Common.{◌∙◌, sym, ap}
use Rattle.row_forms.specs.Words.{at_most}
use Rattle.row_forms.proofs.NumberLemmas.{choice_found, choice_passed, choices_passed}
use Rattle.row_forms.proofs.numbers.choice_number.Goals as goal

pub returns-then-eq-clause-value : goal.returns-then-eq-clause-value
returns-then-eq-clause-value c =
    c.at_most.ensures.value ∙ ap (at_most c.args.most) c.from.ensures
    ∙ sym (c.loop-choice.invariant ∙ choice_found _ _ _ _ _ _ c.loop-choice-test.true c.as_bytes.ensures.value c.if-eq.ensures)

pub loop-choice-preserved : goal.loop-choice-preserved
loop-choice-preserved c =
    c.loop-choice.invariant ∙ choice_passed _ _ _ _ _ _ c.loop-choice-test.true c.as_bytes.ensures.value c.if-eq.ensures

pub returns-clause-value : goal.returns-clause-value
returns-clause-value c = c.number.ensures.value ∙ sym (c.loop-choice.invariant ∙ choices_passed _ _ _ _ c.loop-choice-test.false)
