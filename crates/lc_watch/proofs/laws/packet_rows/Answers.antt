use Rattle.std.proofs.Common.{refl}
use Rattle.packet_forms.specs.Numbers.{be16_bytes, be32_bytes}
use Rattle.packet_forms.specs.Built.{telemetry_of as telemetry_packet, primary_header, command_of, with_checksum}
use Rattle.packet_forms.specs.Packets.{checksum_of}
use Rattle.lc_watch.specs.Answers.{start_of}
use Rattle.lc_watch.specs.Housekeeping.{codes_of, results_of, housekeeping_of}
use Rattle.lc_watch.proofs.laws.packet_rows.Goals as goal

pub returns : goal.returns
unfolding be16_bytes be32_bytes telemetry_packet primary_header command_of with_checksum checksum_of start_of codes_of results_of housekeeping_of
returns c = record {
  start = refl;
  housekeeping = refl;
  results = refl;
  last_result = refl;
}
