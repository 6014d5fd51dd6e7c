use Rattle.packet_forms.proofs.Digits.{four_placed}
use Rattle.packet_forms.proofs.hex.place_four.Goals as goal

pub returns : goal.returns
returns c =
    four_placed c.args.places.now c.place_pair.new.places c.place_pair-2.new.places c.place_pair-3.new.places c.place_pair-4.new.places c.digits_of.result c.digits_of-2.result c.digits_of-3.result c.digits_of-4.result c.args.bytes.now c.args.at
    c.requires.four c.requires.room c.digits_of.ensures c.digits_of-2.ensures c.digits_of-3.ensures c.digits_of-4.ensures c.place_pair.ensures c.place_pair-2.ensures c.place_pair-3.ensures c.place_pair-4.ensures
