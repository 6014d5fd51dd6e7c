use Rattle.std.proofs.Common.{refl}
use Rattle.packet_forms.specs.Numbers.{be16_bytes, be32_bytes}
use Rattle.packet_forms.specs.Names.{name_of}
use Rattle.packet_forms.specs.Built.{telemetry_of, primary_header, event_of, event_payload}
use Rattle.histories.specs.Words.{along, along_after, joined_along, decided, last_or}
use Rattle.hs_actions.specs.Outcomes.{made_of, max_of, sendings, message_goes, outcomes}
use Rattle.hs_actions.specs.Messages.{hs_name}
use Rattle.hs_actions.specs.Answers.{event_out, happening_items, items_of}
use Rattle.hs_actions.proofs.laws.cooldown_rows.Goals as goal

pub returns : goal.returns
unfolding be16_bytes be32_bytes name_of telemetry_of primary_header event_of event_payload along along_after joined_along decided last_or made_of max_of sendings message_goes outcomes hs_name event_out happening_items items_of
returns c = record {
  first = refl;
  second = refl;
  third = refl;
  disabled = refl;
}
