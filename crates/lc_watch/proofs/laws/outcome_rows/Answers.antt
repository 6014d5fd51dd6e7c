use Rattle.std.proofs.Common.{refl}
use Rattle.packet_forms.specs.Numbers.{be16_at, be32_at}
use Rattle.packet_forms.specs.Packets.{message_id}
use Rattle.histories.specs.Words.{last_or}
use Rattle.lc_watch.specs.Outcomes.{reading, outcome_of}
use Rattle.lc_watch.proofs.laws.outcome_rows.Goals as goal

pub returns : goal.returns
unfolding be16_at be32_at message_id last_or reading outcome_of
returns c = record {
  byte = refl;
  byte_past = refl;
  two_bytes = refl;
  two_bytes_past = refl;
  four_bytes = refl;
  four_bytes_past = refl;
  first_byte = refl;
  masked = refl;
  masked_first = refl;
  mask_of_none = refl;
  before = refl;
  last_counts = refl;
  unused = refl;
}
