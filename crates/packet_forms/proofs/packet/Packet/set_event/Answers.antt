use Rattle.packet_forms.proofs.packet.Packet.set_event.Goals as goal

pub invariant_of-self : goal.invariant_of-self
invariant_of-self c = c.draft_event.ensures.reads_back.form
