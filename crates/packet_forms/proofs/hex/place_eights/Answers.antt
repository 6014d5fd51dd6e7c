use Rattle.std.proofs.Common.{◌≡◌, ◌+◌, ◌-◌, ◌*◌, ◌++◌, List, ℕ, ap, length, take, drop, refl, ◌∙◌, arith}
use Rattle.packet_forms.proofs.Digits.{front_none, eights_more, length-front}
use Rattle.packet_forms.proofs.hex.place_eights.Goals as goal

pub loop-k-init : goal.loop-k-init
loop-k-init c = record { value = front_none c.args.places.now c.args.at c.args.bytes.now c.requires.room; size = refl }

pub loop-k-preserved : goal.loop-k-preserved
loop-k-preserved c =
    let k = c.loop-k.k in
    let size : 8 * k + 8 - 8 * k ≡ 8 = omega arith in
    let written = c.place_lanes.ensures ∙ ap (λ (xs : List ℕ). take (c.args.at + 16 * k) c.loop-k.places ++ (xs ++ drop (c.args.at + 16 * k + 16) c.loop-k.places)) c.digits_of_eight.ensures.digits in
    let more = eights_more c.args.places.now c.loop-k.places c.place_lanes.new.places c.args.bytes.now c.args.at k (8 * k + 8 - 8 * k) c.requires.room (omega (arith, c.loop-k-test.true)) size c.loop-k.invariant.value written in
    record {
      value = more;
      size = ap length more ∙ length-front c.args.places.now c.args.bytes.now c.args.at (8 * (k + 1)) c.requires.room (omega (arith, c.loop-k-test.true));
    }
