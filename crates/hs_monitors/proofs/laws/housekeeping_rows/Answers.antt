use Rattle.std.proofs.Common.{refl}
use Rattle.packet_forms.specs.Numbers.{be16_bytes, be32_bytes}
use Rattle.packet_forms.specs.Built.{telemetry_of, primary_header}
use Rattle.histories.specs.Words.{along, along_after, last_or}
use Rattle.histories.specs.Masks.{bits_of}
use Rattle.hs_monitors.specs.Acting.{is_same, counter_in, last_counter, changes, is_still, was_still, acts, has_acted}
use Rattle.hs_monitors.specs.Monitors.{is_watching}
use Rattle.hs_monitors.specs.Housekeeping.{watching_bits, housekeeping_of}
use Rattle.hs_monitors.proofs.laws.housekeeping_rows.Goals as goal

pub returns : goal.returns
unfolding be16_bytes be32_bytes telemetry_of primary_header along along_after last_or bits_of is_same counter_in last_counter changes is_still was_still acts has_acted is_watching watching_bits housekeeping_of
returns c = record {
  packet = refl;
  first = refl;
  last = refl;
  acted = refl;
}
