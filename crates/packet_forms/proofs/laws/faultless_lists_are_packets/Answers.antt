use Rattle.packet_forms.proofs.Forms.{packet_of_none, none_of_packet}
use Rattle.packet_forms.proofs.laws.faultless_lists_are_packets.Goals as goal

pub returns : goal.returns
returns c bytes = (packet_of_none bytes, none_of_packet bytes)
