use Rattle.std.proofs.Common.{refl}
use Rattle.cs_slices.proofs.Taking.{taking_none, taking_step, taking_all}
use Rattle.cs_slices.proofs.switches.Switches.any_takes_part.Goals as goal

pub loop-place-init : goal.loop-place-init
loop-place-init c = λ tables happened stood. taking_none tables happened

pub loop-place-preserved : goal.loop-place-preserved
loop-place-preserved c = λ tables happened stood.
    taking_step tables happened c.loop-place.any _ c.takes_part-any.result c.loop-place.place c.loop-place-test.true (c.takes_part-any.ensures tables happened stood) refl (c.loop-place.invariant tables happened stood)

pub returns : goal.returns
returns c = λ tables happened stood. taking_all tables happened c.loop-place.any c.loop-place.place c.loop-place-test.false (c.loop-place.invariant tables happened stood)
