use Rattle.std.proofs.Common.{refl}
use Rattle.packet_forms.specs.Numbers.{be16_bytes, be32_bytes}
use Rattle.packet_forms.specs.Packets.{checksum_of}
use Rattle.packet_forms.specs.Names.{name_of, name_text, is_name_text}
use Rattle.packet_log.specs.Items.{request_line}
use Rattle.packet_forms.specs.Built.{primary_header, with_checksum, command_of, telemetry_of, event_payload, event_of}
use Rattle.std.specs.Fmt.{digits}
use Rattle.packet_forms.specs.Hex.{hex}
use Rattle.packet_log.specs.Lines.{packet_line, drop_line}
use Rattle.packet_log.proofs.laws.request_rows.Goals as goal

pub returns : goal.returns
unfolding name_text is_name_text request_line digits be16_bytes be32_bytes checksum_of name_of primary_header with_checksum command_of telemetry_of event_payload event_of hex packet_line drop_line
returns c = record {
  reset = refl;
  restart = refl;
  delete = refl;
  items = refl;
}
