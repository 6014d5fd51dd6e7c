use Rattle.std.proofs.Common.{refl}
use Rattle.packet_forms.specs.Numbers.{be16_at}
use Rattle.packet_forms.specs.Packets.{message_id}
use Rattle.hs_monitors.specs.Acting.{is_same}
use Rattle.hs_monitors.specs.Events.{is_event, is_matched}
use Rattle.hs_monitors.proofs.laws.event_rows.Goals as goal

pub returns : goal.returns
unfolding be16_at message_id is_same is_event is_matched
returns c = record {
  message = refl;
  other_id = refl;
  short = refl;
  long = refl;
  same = refl;
  other_event = refl;
  other_name = refl;
}
