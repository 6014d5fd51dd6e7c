use Rattle.std.proofs.Common.{◌∙◌, sym, lit<}
use Rattle.packet_forms.proofs.Forms.{packet_of_none}
use Rattle.packet_forms.proofs.packet.Packet.set_bytes.Goals as goal

pub set-requires : goal.set-requires
set-requires c = (lit< tt, (packet_of_none c.args.bytes.now (sym c.find_fault.ensures ∙ c.in_default.is)).short)

pub invariant_of-self : goal.invariant_of-self
invariant_of-self c = rw c.set.ensures (packet_of_none c.args.bytes.now (sym c.find_fault.ensures ∙ c.in_default.is))
