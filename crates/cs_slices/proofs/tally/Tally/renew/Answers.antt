use Rattle.std.proofs.Common.{◌≢◌, ◌<◌, refl, arith, length, ◌∙◌, get_or-set_other, get_or-set_same, below_more}
use Rattle.std.proofs.lemmas.List.{length-set}
use Rattle.cs_slices.proofs.Tallying.{tally_renewed}
use Rattle.cs_slices.proofs.tally.Tally.renew.Goals as goal

pub loop-place-preserved : goal.loop-place-preserved
loop-place-preserved c = record {
  whole = length-set c.loop-place.baselines c.loop-place.place c.kept.result ∙ c.loop-place.invariant.whole;
  each = below_more _ _
      (λ k below. let other : k ≢ c.loop-place.place = omega arith in rw get_or-set_other (c.loop-place.invariant.each k below))
      (let within : c.loop-place.place < length c.loop-place.baselines = omega arith in rw get_or-set_same c.kept.ensures);
}

pub returns : goal.returns
returns c = λ happened stood.
    tally_renewed happened c.args.table c.args.self.now _ stood c.loop-place.invariant.whole (λ k below. c.loop-place.invariant.each k (omega arith)) refl refl refl
