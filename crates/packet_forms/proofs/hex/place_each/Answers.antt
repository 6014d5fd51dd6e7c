use Rattle.std.proofs.Common.{◌∙◌, ap, length, refl, arith}
use Rattle.packet_forms.proofs.Digits.{front_none, front_more, length-front}
use Rattle.packet_forms.proofs.hex.place_each.Goals as goal

pub loop-i-init : goal.loop-i-init
loop-i-init c = record { value = front_none c.args.places.now c.args.at c.args.bytes.now c.requires; size = refl }

pub loop-i-preserved : goal.loop-i-preserved
loop-i-preserved c =
    let more = front_more c.args.places.now c.loop-i.places c.place.new.bytes c.digits_of.result c.args.bytes.now c.args.at c.loop-i.i c.requires c.loop-i-test.true c.loop-i.invariant.value c.digits_of.ensures c.place.ensures in
    record {
      value = more;
      size = ap length more ∙ length-front c.args.places.now c.args.bytes.now c.args.at _ c.requires (omega (arith, c.loop-i-test.true));
    }
