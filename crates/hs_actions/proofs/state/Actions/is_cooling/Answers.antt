use Rattle.std.proofs.Common.{refl}
use Rattle.hs_actions.proofs.Cooling.{cooling_none, cooling_step, cooling_all}
use Rattle.hs_actions.proofs.state.Actions.is_cooling.Goals as goal

pub loop-place-init : goal.loop-place-init
loop-place-init c = λ acts past stood. cooling_none acts past

pub loop-place-preserved : goal.loop-place-preserved
loop-place-preserved c = λ acts past stood.
    cooling_step acts past c.args.self.now c.loop-place.any _ c.loop-place.place c.loop-place-test.true refl stood (c.loop-place.invariant acts past stood)

pub returns : goal.returns
returns c = λ acts past stood. cooling_all acts past c.loop-place.any c.loop-place.place c.loop-place-test.false (c.loop-place.invariant acts past stood)
