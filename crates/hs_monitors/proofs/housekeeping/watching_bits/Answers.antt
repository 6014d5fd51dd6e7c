use Rattle.std.proofs.Common.{◌∙◌, arith}
use Rattle.std.proofs.lemmas.List.{length-set}
use Rattle.hs_monitors.proofs.Showing.{bits_more, bits_all}
use Rattle.hs_monitors.proofs.housekeeping.watching_bits.Goals as goal

pub loop-place-preserved : goal.loop-place-preserved
loop-place-preserved c =
    let held = c.loop-place.invariant in
    record {
      long = length-set c.loop-place.bits c.loop-place.place c.is_watching.result ∙ held.long;
      each = λ checks stood.
          bits_more c.args.apps.now checks c.loop-place.bits c.loop-place.place c.is_watching.result (omega arith) (held.each checks stood) (c.is_watching.ensures checks (λ e is. stood.each c.loop-place.place e (omega arith) is));
    }

pub returns : goal.returns
returns c = λ checks stood.
    let whole = c.loop-place.invariant.long in
    bits_all c.args.apps.now checks c.loop-place.bits c.bits_of.result (omega arith) (λ k within. c.loop-place.invariant.each checks stood k (omega arith)) c.bits_of.ensures.bits
