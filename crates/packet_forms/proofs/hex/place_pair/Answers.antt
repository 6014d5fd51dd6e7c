use Rattle.packet_forms.proofs.Digits.{pair_placed}
use Rattle.packet_forms.proofs.hex.place_pair.Goals as goal

pub returns : goal.returns
returns c = pair_placed c.args.places.now c.args.pair c.args.at c.requires.two c.requires.room
