use Rattle.std.proofs.Common.{◌≡◌, ◌+◌, ◌-◌, ◌*◌, ap, length, refl, ◌∙◌, arith}
use Rattle.packet_forms.proofs.Digits.{front_none, fours_more, length-front}
use Rattle.packet_forms.proofs.hex.place_fours.Goals as goal

pub loop-k-init : goal.loop-k-init
loop-k-init c = record { value = front_none c.args.places.now c.args.at c.args.bytes.now c.requires.room; size = refl }

pub loop-k-preserved : goal.loop-k-preserved
loop-k-preserved c =
    let k = c.loop-k.k in
    let size : 4 * k + 4 - 4 * k ≡ 4 = omega arith in
    let more = fours_more c.args.places.now c.loop-k.places c.place_four.new.places c.args.bytes.now c.args.at k (4 * k + 4 - 4 * k) c.requires.room (omega (arith, c.loop-k-test.true)) size c.loop-k.invariant.value c.place_four.ensures in
    record {
      value = more;
      size = ap length more ∙ length-front c.args.places.now c.args.bytes.now c.args.at (4 * (k + 1)) c.requires.room (omega (arith, c.loop-k-test.true));
    }
