use Rattle.std.proofs.Common.{refl}
use Rattle.row_forms.proofs.StepLemmas.{no_steps_listed, step_listed}
use Rattle.row_forms.proofs.values.+push_steps.Goals as goal

pub returns-then-count-eq0 : goal.returns-then-count-eq0
returns-then-count-eq0 t c = no_steps_listed _ _ _ _ _ c.if-count-eq0.true

pub returns : goal.returns
returns t c = step_listed _ _ _ c.args.count _ c.args.bytes.now c.behind.result.now _ _ _ c.if-count-eq0.false refl c.behind.ensures (rw (← c.be16.ensures) c.in_ok-push_step.ensures) c.push_steps.ensures
