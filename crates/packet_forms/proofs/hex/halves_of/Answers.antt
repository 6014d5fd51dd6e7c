use Rattle.packet_forms.proofs.Digits.{halves_are}
use Rattle.packet_forms.proofs.hex.halves_of.Goals as goal

pub returns : goal.returns
returns c = halves_are c.args.bytes c.requires
