use Rattle.packet_forms.proofs.Forms.{shortest}
use Rattle.packet_forms.proofs.packet.PacketDefault.default.Goals as goal

pub of_list-requires : goal.of_list-requires
of_list-requires c = rw c.copy_of.ensures shortest
