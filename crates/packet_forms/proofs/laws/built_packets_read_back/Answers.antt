use Rattle.packet_forms.proofs.Forms.{command_reads_back, telemetry_reads_back, recounted}
use Rattle.packet_forms.proofs.laws.built_packets_read_back.Goals as goal

pub returns : goal.returns
returns c = record { commands = command_reads_back; telemetry = telemetry_reads_back; recounted = recounted }
