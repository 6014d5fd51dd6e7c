use Rattle.std.proofs.Common.{◌∙◌, sym}
use Rattle.row_forms.proofs.NumberLemmas.{pushed, shown_found, shown_passed, choices_unshown}
use Rattle.row_forms.proofs.numbers.push_choice.Goals as goal

pub returns-then-choice-number : goal.returns-then-choice-number
returns-then-choice-number c =
    let same = c.loop-choice.invariant.shown ∙ shown_found _ _ _ _ c.loop-choice-test.true c.if-choice-number.true in
    pushed _ _ _ _ _ _ c.extend_from_slice.ensures.items c.loop-choice.invariant.kept (c.as_bytes.ensures.value ∙ sym same)

pub loop-choice-preserved : goal.loop-choice-preserved
loop-choice-preserved c = record {
  kept = c.loop-choice.invariant.kept;
  shown = c.loop-choice.invariant.shown ∙ shown_passed _ _ _ _ c.loop-choice-test.true c.if-choice-number.false;
}

pub returns : goal.returns
returns c = rw (c.loop-choice.invariant.shown ∙ choices_unshown _ _ _ c.loop-choice-test.false, ← c.loop-choice.invariant.kept) c.push_decimal.ensures
