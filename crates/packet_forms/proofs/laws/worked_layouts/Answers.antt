use Rattle.std.proofs.Common.{refl}
use Rattle.packet_forms.specs.Numbers.{be16_bytes, be32_bytes}
use Rattle.packet_forms.specs.Packets.{checksum_of}
use Rattle.packet_forms.specs.Names.{name_of}
use Rattle.packet_forms.specs.Built.{primary_header, with_checksum, command_of, telemetry_of, event_payload, event_of, with_sequence}
use Rattle.packet_forms.proofs.laws.worked_layouts.Goals as goal

pub returns : goal.returns
unfolding be16_bytes be32_bytes checksum_of name_of primary_header with_checksum command_of telemetry_of event_payload event_of with_sequence
returns c = record { name = refl; event = refl; telemetry = refl; command = refl; recounted = refl }
