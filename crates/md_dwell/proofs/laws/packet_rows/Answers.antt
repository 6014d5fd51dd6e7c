use Rattle.std.proofs.Common.{refl}
use Rattle.packet_forms.specs.Numbers.{be16_bytes, be32_bytes}
use Rattle.packet_forms.specs.Built.{telemetry_of, primary_header}
use Rattle.md_dwell.specs.Housekeeping.{housekeeping_of}
use Rattle.md_dwell.specs.Answers.{dwell_packet}
use Rattle.md_dwell.proofs.laws.packet_rows.Goals as goal

pub returns : goal.returns
unfolding be16_bytes be32_bytes telemetry_of primary_header housekeeping_of dwell_packet
returns c = record {
  housekeeping = refl;
  dwell = refl;
}
