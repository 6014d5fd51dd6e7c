use Rattle.std.proofs.Common.{◌∙◌, sym, lit<}
use Rattle.packet_forms.proofs.Forms.{packet_of_none}
use Rattle.packet_forms.proofs.packet.Packet.from_bytes.Goals as goal

pub copy_of-requires : goal.copy_of-requires
copy_of-requires c = (lit< tt, (packet_of_none c.args.bytes.now (sym c.find_fault.ensures ∙ c.in_default.is)).short)

pub of_list-requires : goal.of_list-requires
of_list-requires c = rw c.copy_of.ensures (packet_of_none c.args.bytes.now (sym c.find_fault.ensures ∙ c.in_default.is))
