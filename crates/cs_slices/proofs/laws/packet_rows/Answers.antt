use Rattle.std.proofs.Common.{refl}
use Rattle.packet_forms.specs.Numbers.{be16_bytes, be32_bytes}
use Rattle.packet_forms.specs.Built.{telemetry_of, primary_header}
use Rattle.cs_slices.specs.Housekeeping.{housekeeping_of}
use Rattle.cs_slices.specs.Answers.{baseline_packet}
use Rattle.cs_slices.proofs.laws.packet_rows.Goals as goal

pub returns : goal.returns
unfolding be16_bytes be32_bytes telemetry_of primary_header housekeeping_of baseline_packet
returns c = record {
  housekeeping = refl;
  baseline = refl;
  no_baseline = refl;
}
