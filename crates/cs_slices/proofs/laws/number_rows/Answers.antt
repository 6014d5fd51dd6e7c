use Rattle.std.proofs.Common.{refl}
use Rattle.packet_forms.specs.Numbers.{be16_at, be16_bytes, be32_bytes}
use Rattle.packet_forms.specs.Packets.{message_id, function_code, is_checksum_right, checksum_of, payload_of, is_command}
use Rattle.packet_forms.specs.Names.{name_of}
use Rattle.packet_forms.specs.Crc.{low_bits, crc_bit, crc_of}
use Rattle.packet_forms.specs.Built.{telemetry_of, primary_header, event_of, event_payload}
use Rattle.histories.specs.Words.{along, along_after, joined_along, last_or, decided, from_last}
use Rattle.histories.specs.Masks.{bits_of}
use Rattle.commands.specs.Verdicts.{verdict_at, verdicts_on, orders_in}
use Rattle.commands.specs.Inputs.{heard_along}
use Rattle.commands.specs.Counting.{accepted_count, error_count}
use Rattle.commands.specs.Answering.{packet_items, command_items}
use Rattle.cs_slices.specs.Messages.{cs_codes, cs_name}
use Rattle.cs_slices.specs.Tables.{entry_in, blank_segments, segments_of, segment_reason, segments_fault_of}
use Rattle.table_files.specs.Entries.{first_fault}
use Rattle.packet_forms.specs.Numbers.{be32_at}
use Rattle.cs_slices.specs.Instructions.{instruction_of}
use Rattle.cs_slices.specs.Orders.{is_cs_on, is_table_on, is_entry_on, takes_part}
use Rattle.cs_slices.specs.Slices.{current_place, has_begun, offset_at, entry_bytes, slice_from, ring_from, next_slice}
use Rattle.cs_slices.specs.Passes.{pass_bytes, checks, baseline, miscompares, miscompare_count, pass_count}
use Rattle.cs_slices.specs.Happenings.{orders_among, slices_among, since_slice, orders_since, slices_since}
use Rattle.cs_slices.specs.Histories.{happened_of, slice_at}
use Rattle.histories.specs.Entries.{activations, in_force}
use Rattle.cs_slices.specs.Housekeeping.{flags_of, housekeeping_of, housekeeping_at}
use Rattle.cs_slices.specs.Answers.{baseline_packet}
use Rattle.cs_slices.specs.Step.{cs_heard, cs_items}
use Rattle.cs_slices.proofs.laws.number_rows.Goals as goal

pub returns : goal.returns
unfolding segments_of segment_reason segments_fault_of first_fault be32_at be16_at be16_bytes be32_bytes message_id function_code is_checksum_right checksum_of payload_of is_command name_of low_bits crc_bit crc_of telemetry_of primary_header event_of event_payload along along_after joined_along last_or decided from_last bits_of verdict_at verdicts_on orders_in heard_along accepted_count error_count packet_items command_items cs_codes cs_name entry_in blank_segments instruction_of is_cs_on is_table_on is_entry_on takes_part current_place has_begun offset_at entry_bytes slice_from ring_from next_slice pass_bytes checks baseline miscompares miscompare_count pass_count orders_among slices_among since_slice orders_since slices_since happened_of slice_at activations in_force flags_of housekeeping_of housekeeping_at baseline_packet cs_heard cs_items
returns c = record {
  tables = refl;
  of_entries = refl;
  entries = refl;
  ends = refl;
  states = refl;
  last = refl;
}
