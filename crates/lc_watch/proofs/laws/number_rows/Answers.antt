use Rattle.std.proofs.Common.{refl}
use Rattle.packet_forms.specs.Numbers.{be16_bytes, be32_bytes, be16_at, be32_at}
use Rattle.packet_forms.specs.Packets.{message_id, function_code, is_checksum_right, checksum_of, payload_of, is_command}
use Rattle.packet_forms.specs.Names.{name_of}
use Rattle.packet_forms.specs.Built.{telemetry_of as telemetry_packet, primary_header, event_of, event_payload, command_of, with_checksum}
use Rattle.histories.specs.Words.{along, along_after, joined_along, last_or, decided}
use Rattle.histories.specs.Masks.{bits_of}
use Rattle.commands.specs.Verdicts.{verdict_at, verdicts_on, orders_in}
use Rattle.commands.specs.Inputs.{heard_along}
use Rattle.commands.specs.Counting.{accepted_count, error_count}
use Rattle.commands.specs.Answering.{packet_items, command_items}
use Rattle.lc_watch.specs.Messages.{lc_codes, lc_name}
use Rattle.lc_watch.specs.Outcomes.{reading, outcome_of}
use Rattle.lc_watch.specs.Expressions.{values_left, value_of}
use Rattle.lc_watch.specs.Actionpoints.{evaluation_of}
use Rattle.lc_watch.specs.Failing.{are_failing, set_by, fired_along}
use Rattle.lc_watch.specs.Instructions.{instruction_of}
use Rattle.lc_watch.specs.Histories.{telemetry_of, evaluations_of}
use Rattle.lc_watch.specs.Firing.{settings_of, fired_at, fired_of, fired_count}
use Rattle.lc_watch.specs.Housekeeping.{codes_of, results_of, active_bits, housekeeping_of, housekeeping_at}
use Rattle.lc_watch.specs.Answers.{start_of}
use Rattle.lc_watch.specs.Step.{lc_heard, lc_items}
use Rattle.lc_watch.proofs.laws.number_rows.Goals as goal

pub returns : goal.returns
unfolding be16_bytes be32_bytes message_id function_code is_checksum_right checksum_of payload_of is_command name_of telemetry_packet primary_header event_of event_payload command_of with_checksum along along_after joined_along last_or decided bits_of verdict_at verdicts_on orders_in heard_along accepted_count error_count packet_items command_items lc_codes lc_name reading outcome_of values_left value_of evaluation_of are_failing set_by fired_along instruction_of telemetry_of evaluations_of settings_of fired_at fired_of fired_count codes_of results_of active_bits housekeeping_of housekeeping_at lc_heard start_of lc_items be16_at be32_at
returns c = record {
  active = refl;
  passive = refl;
  failures = refl;
}
