use Rattle.std.proofs.Common.{refl}
use Rattle.packet_forms.specs.Numbers.{be16_at, be32_at, be16_bytes, be32_bytes}
use Rattle.packet_forms.specs.Packets.{message_id, function_code, is_checksum_right, checksum_of, payload_of, is_command}
use Rattle.packet_forms.specs.Names.{name_of}
use Rattle.packet_forms.specs.Built.{telemetry_of, primary_header, event_of, event_payload}
use Rattle.histories.specs.Words.{along, along_after, joined_along}
use Rattle.histories.specs.Masks.{bits_of}
use Rattle.commands.specs.Verdicts.{verdict_at, verdicts_on, orders_in}
use Rattle.commands.specs.Inputs.{heard_along}
use Rattle.commands.specs.Counting.{accepted_count, error_count}
use Rattle.commands.specs.Answering.{packet_items, command_items}
use Rattle.sc_sequences.specs.Messages.{sc_name, sc_codes}
use Rattle.sc_sequences.specs.Instructions.{instruction_of}
use Rattle.sc_sequences.specs.Sequences.{from_time}
use Rattle.sc_sequences.specs.Orders.{after_orders}
use Rattle.sc_sequences.specs.Answers.{head_items}
use Rattle.sc_sequences.specs.Turns.{earliest, soonest, next_place, turn, turns}
use Rattle.sc_sequences.specs.Histories.{at_start, sequences_of}
use Rattle.sc_sequences.specs.Housekeeping.{running_mask, enabled_mask, report_of, be64_bytes, housekeeping_of}
use Rattle.sc_sequences.specs.Step.{sc_heard, sc_items}
use Rattle.sc_sequences.proofs.laws.tags_count_from_leaving.Goals as goal

pub returns : goal.returns
unfolding be16_at be32_at be16_bytes be32_bytes message_id function_code is_checksum_right checksum_of payload_of is_command name_of telemetry_of primary_header event_of event_payload along along_after joined_along bits_of verdict_at verdicts_on orders_in heard_along accepted_count error_count packet_items command_items sc_name sc_codes instruction_of from_time after_orders earliest soonest next_place head_items turn turns at_start sequences_of running_mask enabled_mask report_of be64_bytes housekeeping_of sc_heard sc_items
returns c = refl
