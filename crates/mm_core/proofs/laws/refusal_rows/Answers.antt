use Rattle.std.proofs.Common.{refl}
use Rattle.packet_forms.specs.Numbers.{be16_at, be32_at}
use Rattle.packet_forms.specs.Packets.{message_id, function_code, is_checksum_right, checksum_of, payload_of, is_command}
use Rattle.commands.specs.Verdicts.{verdict_at}
use Rattle.mm_core.specs.Messages.{mm_codes, mm_name}
use Rattle.mm_core.specs.Instructions.{instruction_of}
use Rattle.mm_core.specs.Reading.{value_at, range_at, admission_of, protection_of}
use Rattle.packet_forms.specs.Crc.{low_bits, crc_bit, crc_of}
use Rattle.mm_core.proofs.laws.refusal_rows.Goals as goal

pub returns : goal.returns
unfolding be16_at be32_at message_id function_code is_checksum_right checksum_of payload_of is_command verdict_at mm_codes mm_name instruction_of value_at admission_of protection_of low_bits crc_bit crc_of range_at
returns c = record {
  checksum = refl;
  code = refl;
  length = refl;
  outside = refl;
  unaligned = refl;
  wrong_size = refl;
  protected = refl;
  size = refl;
  region = refl;
  load_length = refl;
  load_too_long = refl;
  load_check = refl;
  load_access = refl;
  load_file = refl;
  fill_length = refl;
  fill_access = refl;
  dump_length = refl;
  dump_access = refl;
}
