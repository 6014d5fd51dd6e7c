use Rattle.std.proofs.Common.{◌≢◌, ◌<◌, refl, arith, length, ◌∙◌, ap, get_or-set_other, get_or-set_same, below_more}
use Rattle.std.specs.Prelude.{◌==◌}
use Rattle.std.proofs.lemmas.List.{length-set}
use Rattle.cs_slices.specs.declared.segments.Segment.{Segment}
use Rattle.cs_slices.proofs.Switching.{switches_start}
use Rattle.cs_slices.proofs.switches.Switches.start.Goals as goal

pub loop-place-preserved : goal.loop-place-preserved
loop-place-preserved c = record {
  whole = length-set c.loop-place.entries c.loop-place.place (c.entry_in.result.state == 1) ∙ c.loop-place.invariant.whole;
  each = below_more _ _
      (λ k below. let other : k ≢ c.loop-place.place = omega arith in rw get_or-set_other (c.loop-place.invariant.each k below))
      (let within : c.loop-place.place < length c.loop-place.entries = omega arith in rw get_or-set_same (ap (λ (s : Segment). s.state == 1) c.entry_in.ensures));
}

pub returns : goal.returns
returns c = switches_start _ _ refl refl refl c.loop-place.invariant.whole (λ k below. c.loop-place.invariant.each k (omega arith))
