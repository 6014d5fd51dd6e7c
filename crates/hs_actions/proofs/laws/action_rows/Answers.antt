use Rattle.std.proofs.Common.{refl}
use Rattle.packet_forms.specs.Numbers.{be16_bytes, be32_bytes}
use Rattle.packet_forms.specs.Names.{name_of}
use Rattle.packet_forms.specs.Built.{telemetry_of, primary_header, event_of, event_payload}
use Rattle.hs_actions.specs.Messages.{hs_name}
use Rattle.hs_actions.specs.Answers.{event_out}
use Rattle.hs_actions.proofs.laws.action_rows.Goals as goal

pub returns : goal.returns
unfolding be16_bytes be32_bytes name_of telemetry_of primary_header event_of event_payload hs_name event_out
returns c = record {
  reset = refl;
  no_reset = refl;
  restart = refl;
  report = refl;
  message = refl;
  quiet_message = refl;
  no_message = refl;
  event_reset = refl;
  event_no_reset = refl;
  event_restart = refl;
  event_report = refl;
  event_message = refl;
}
