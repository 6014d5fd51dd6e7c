use Rattle.std.proofs.Common.{◌≢◌, ◌<◌, refl, arith, length, ◌∙◌, get_or-set_other, get_or-set_same, below_more}
use Rattle.std.proofs.lemmas.List.{length-set}
use Rattle.cs_slices.proofs.Switching.{switches_renewed}
use Rattle.cs_slices.proofs.switches.Switches.renew.Goals as goal

pub loop-place-preserved : goal.loop-place-preserved
loop-place-preserved c = record {
  whole = length-set c.loop-place.entries c.loop-place.place c.renewed.result ∙ c.loop-place.invariant.whole;
  each = below_more _ _
      (λ k below. let other : k ≢ c.loop-place.place = omega arith in rw get_or-set_other (c.loop-place.invariant.each k below))
      (let within : c.loop-place.place < length c.loop-place.entries = omega arith in rw get_or-set_same c.renewed.ensures);
}

pub returns : goal.returns
returns c = λ tables happened stood.
    switches_renewed tables happened c.args.table c.args.segments.now c.args.self.now _ stood refl refl refl c.loop-place.invariant.whole (λ k below. c.loop-place.invariant.each k (omega arith))
