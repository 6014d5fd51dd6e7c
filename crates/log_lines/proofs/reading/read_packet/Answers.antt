use Rattle.log_lines.proofs.reading.read_packet.Goals as goal

pub packet_of-requires : goal.packet_of-requires
packet_of-requires c = c.in-Ok.ensures.size 640 c.requires
