use Rattle.row_forms.proofs.StepLemmas.{steps_bad, steps_last, steps_after}
use Rattle.row_forms.proofs.values.+read_steps.Goals as goal

pub returns-in_default : goal.returns-in_default
returns-in_default t c = steps_bad _ c.split_part.result.0.now c.args.text.now c.split_part.result.1 _ _ c.split_part.ensures.parts c.in_default.ensures.value

pub returns-in-Some-rest : goal.returns-in-Some-rest
returns-in-Some-rest t c =
    let parts = rw c.in-Some-rest.is at c.split_part.ensures.parts in
    steps_after _ c.args.words.now c.split_part.result.0.now c.args.text.now c.in-Some-rest.rest.now _ _ c.push_number.new.out.items _ parts c.in-Some.ensures.value c.in_ok-push_number.ensures c.read_steps.ensures

pub returns-in-None : goal.returns-in-None
returns-in-None t c =
    let parts = rw c.in-None.is at c.split_part.ensures.parts in
    steps_last c.args.words.now c.split_part.result.0.now c.args.text.now _ _ _ parts c.in-Some.ensures.value c.in_ok-push_number.ensures
