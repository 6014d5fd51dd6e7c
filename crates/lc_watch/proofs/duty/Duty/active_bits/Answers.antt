use Rattle.std.proofs.Common.{◌<◌, ◌∙◌, length, false, refl, arith}
use Rattle.std.proofs.lemmas.List.{length-set}
use Rattle.lc_watch.proofs.Halves.{half_none, half_more, half_whole}
use Rattle.lc_watch.proofs.Showing.{IsAnyBit, IsShown, active_shown}
use Rattle.lc_watch.proofs.duty.Duty.active_bits.Goals as goal

pub loop-place-init : goal.loop-place-init
loop-place-init c = record { long = refl; half = half_none IsAnyBit (IsShown c.args.self.now.points) 16 false _ (λ k within. tt) }

pub loop-place-preserved : goal.loop-place-preserved
loop-place-preserved c =
    let held = c.loop-place.invariant in
    let within : c.loop-place.place < length c.loop-place.bits = omega (arith, held.long) in
    record {
      long = length-set c.loop-place.bits c.loop-place.place _ ∙ held.long;
      half = half_more IsAnyBit (IsShown c.args.self.now.points) 16 false c.loop-place.bits c.loop-place.place _ within refl held.half;
    }

pub returns : goal.returns
returns c = λ setup history orders stood.
    c.bits_of.ensures.bits
    ∙ active_shown setup history orders c.args.self.now.points c.loop-place.bits c.loop-place.invariant.long
    (half_whole IsAnyBit (IsShown c.args.self.now.points) 16 false c.loop-place.bits c.loop-place.place c.loop-place-test.false c.loop-place.invariant.half) stood.points
