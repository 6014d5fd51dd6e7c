use Rattle.std.proofs.Common.{arith}
use Rattle.hs_monitors.proofs.Places.{places_none, places_step}
use Rattle.hs_monitors.proofs.apps.places_in.Goals as goal

pub loop-place-init : goal.loop-place-init
loop-place-init c = places_none

pub loop-place-preserved : goal.loop-place-preserved
loop-place-preserved c = places_step c.args.apps.now c.loop-place.place c.loop-place.places c.places_with-places.result (omega arith) c.loop-place.invariant c.places_with-places.ensures
