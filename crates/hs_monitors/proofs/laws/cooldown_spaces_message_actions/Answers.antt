use Rattle.std.proofs.Common.{refl}
use Rattle.packet_forms.specs.Numbers.{be16_at, be16_bytes, be32_bytes}
use Rattle.packet_forms.specs.Packets.{message_id, function_code, is_checksum_right, checksum_of, payload_of, is_command}
use Rattle.packet_forms.specs.Names.{name_of}
use Rattle.packet_forms.specs.Built.{telemetry_of, primary_header, event_of, event_payload}
use Rattle.histories.specs.Words.{along, along_after, joined_along, last_or, decided, from_last}
use Rattle.histories.specs.Masks.{bits_of}
use Rattle.histories.specs.Entries.{wakeups, activations, in_force}
use Rattle.commands.specs.Verdicts.{verdict_at, verdicts_on, orders_in}
use Rattle.commands.specs.Inputs.{heard_along}
use Rattle.commands.specs.Counting.{accepted_count, error_count}
use Rattle.commands.specs.Answering.{packet_items, command_items}
use Rattle.hs_actions.specs.Outcomes.{made_of, max_of, sendings, sent_of, message_goes, outcomes}
use Rattle.hs_actions.specs.Messages.{hs_name}
use Rattle.hs_actions.specs.Answers.{event_out, happening_items, items_of}
use Rattle.hs_monitors.specs.Messages.{hs_codes}
use Rattle.hs_monitors.specs.Instructions.{instruction_of}
use Rattle.hs_monitors.specs.Orders.{orders_of, is_on, is_listening, refreshed_by, by_orders}
use Rattle.hs_monitors.specs.Watches.{watch_of, watch_at}
use Rattle.hs_monitors.specs.Acting.{is_same, counter_in, last_counter, changes, is_still, was_still, acts, acts_now, has_acted}
use Rattle.hs_monitors.specs.Monitors.{app_attempt, is_watching}
use Rattle.hs_monitors.specs.Events.{is_event, is_matched, event_attempt, event_attempts}
use Rattle.hs_monitors.specs.Attempts.{by_monitors, happened_of}
use Rattle.hs_monitors.specs.Housekeeping.{watching_bits, housekeeping_of, housekeeping_at}
use Rattle.hs_monitors.specs.Step.{hs_heard, hs_items}
use Rattle.hs_monitors.proofs.laws.cooldown_spaces_message_actions.Goals as goal

pub returns : goal.returns
unfolding be16_at be16_bytes be32_bytes message_id function_code is_checksum_right checksum_of payload_of is_command name_of telemetry_of primary_header event_of event_payload along along_after joined_along last_or decided from_last bits_of wakeups activations in_force verdict_at verdicts_on orders_in heard_along accepted_count error_count packet_items command_items made_of max_of sendings sent_of message_goes outcomes hs_name event_out happening_items items_of hs_codes instruction_of orders_of is_on is_listening refreshed_by by_orders watch_of watch_at is_same counter_in last_counter changes is_still was_still acts acts_now has_acted app_attempt is_watching is_event is_matched event_attempt event_attempts by_monitors happened_of watching_bits housekeeping_of housekeeping_at hs_heard hs_items
returns c = record {
  first = refl;
  second = refl;
  third = refl;
  deaf = refl;
  other = refl;
}
