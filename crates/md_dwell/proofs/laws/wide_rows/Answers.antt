use Rattle.std.proofs.Common.{refl}
use Rattle.packet_forms.specs.Numbers.{be16_at, be32_at, be16_bytes, be32_bytes}
use Rattle.packet_forms.specs.Packets.{message_id, function_code, is_checksum_right, checksum_of, payload_of, is_command}
use Rattle.packet_forms.specs.Names.{name_of}
use Rattle.packet_forms.specs.Built.{telemetry_of, primary_header, event_of, event_payload}
use Rattle.histories.specs.Words.{along, along_after, joined_along, from_last, last_or, last_place}
use Rattle.histories.specs.Entries.{wakeups, activations, in_force, wakeups_before}
use Rattle.histories.specs.Masks.{bits_of}
use Rattle.commands.specs.Verdicts.{verdict_at, verdicts_on, orders_in}
use Rattle.commands.specs.Inputs.{heard_along}
use Rattle.commands.specs.Counting.{accepted_count, error_count}
use Rattle.commands.specs.Answering.{packet_items, command_items}
use Rattle.md_dwell.specs.Messages.{md_codes, md_name}
use Rattle.md_dwell.specs.Tables.{blank_table, entries_in, entry_reason, dwell_fault_of}
use Rattle.table_files.specs.Entries.{first_fault}
use Rattle.md_dwell.specs.Verdicts.{is_readable}
use Rattle.md_dwell.specs.Lists.{list_of, delays}
use Rattle.md_dwell.specs.Reading.{value_of, bytes_of_value, entry_bytes}
use Rattle.md_dwell.specs.Rounds.{gathered, round_bytes, is_due, round_at, dwell_at}
use Rattle.md_dwell.specs.Instructions.{instruction_of}
use Rattle.md_dwell.specs.Orders.{entries_after, is_on_after, starts_in}
use Rattle.md_dwell.specs.Histories.{orders_since, started_at, images_of}
use Rattle.md_dwell.specs.Housekeeping.{enabled_bits, housekeeping_of}
use Rattle.md_dwell.specs.Rows.{sent_along}
use Rattle.md_dwell.specs.Answers.{dwell_packet}
use Rattle.md_dwell.specs.Step.{md_heard, table_items, md_items}
use Rattle.md_dwell.proofs.laws.wide_rows.Goals as goal

pub returns : goal.returns
unfolding entries_in entry_reason dwell_fault_of first_fault is_readable be16_at be32_at be16_bytes be32_bytes message_id function_code is_checksum_right checksum_of payload_of is_command name_of telemetry_of primary_header event_of event_payload along along_after joined_along from_last last_or last_place wakeups activations in_force wakeups_before bits_of verdict_at verdicts_on orders_in heard_along accepted_count error_count packet_items command_items md_codes md_name blank_table list_of delays value_of bytes_of_value entry_bytes gathered round_bytes is_due round_at dwell_at instruction_of entries_after is_on_after starts_in orders_since started_at images_of enabled_bits housekeeping_of md_heard dwell_packet table_items md_items sent_along
returns c = record {
  round = refl;
  flags = refl;
  lengths = refl;
  last_fault = refl;
}
