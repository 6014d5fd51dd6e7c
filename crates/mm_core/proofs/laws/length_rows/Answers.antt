use Rattle.std.proofs.Common.{refl}
use Rattle.packet_forms.specs.Numbers.{be16_at, be32_at, be16_bytes, be32_bytes}
use Rattle.packet_forms.specs.Packets.{message_id, function_code, is_checksum_right, checksum_of, payload_of, is_command}
use Rattle.packet_forms.specs.Crc.{low_bits, crc_bit, crc_of}
use Rattle.packet_forms.specs.Names.{name_of}
use Rattle.packet_forms.specs.Built.{telemetry_of, primary_header, event_of, event_payload}
use Rattle.histories.specs.Words.{along, along_after, joined_along}
use Rattle.histories.specs.Masks.{bits_of}
use Rattle.commands.specs.Verdicts.{verdict_at, verdicts_on, orders_in}
use Rattle.commands.specs.Inputs.{heard_along}
use Rattle.commands.specs.Counting.{accepted_count, error_count}
use Rattle.commands.specs.Answering.{packet_items, command_items}
use Rattle.mm_core.specs.Messages.{mm_codes, mm_name}
use Rattle.mm_core.specs.Instructions.{instruction_of}
use Rattle.mm_core.specs.Reading.{value_at, range_at, admission_of, protection_of}
use Rattle.mm_core.specs.Housekeeping.{open_regions, housekeeping_of}
use Rattle.mm_core.specs.Answers.{peek_packet, dump_packet, dump_items}
use Rattle.mm_core.specs.Step.{mm_heard, mm_items, operations_of, mm_operations}
use Rattle.mm_core.proofs.laws.length_rows.Goals as goal

pub returns : goal.returns
unfolding name_of be16_at be32_at be16_bytes be32_bytes message_id function_code is_checksum_right checksum_of payload_of is_command telemetry_of primary_header event_of event_payload along along_after joined_along bits_of verdict_at verdicts_on orders_in heard_along accepted_count error_count packet_items command_items mm_codes mm_name instruction_of value_at admission_of protection_of open_regions housekeeping_of peek_packet mm_heard mm_items operations_of mm_operations low_bits crc_bit crc_of range_at dump_packet dump_items
returns c = record {
  codes = refl;
  one = refl;
  most = refl;
  past = refl;
}
