use Rattle.packet_forms.proofs.packet.Packet.set_telemetry.Goals as goal

pub invariant_of-self : goal.invariant_of-self
invariant_of-self c = c.draft_telemetry.ensures.reads_back.form
