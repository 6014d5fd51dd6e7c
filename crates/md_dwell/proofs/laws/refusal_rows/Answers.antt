use Rattle.std.proofs.Common.{refl}
use Rattle.packet_forms.specs.Numbers.{be16_at, be32_at}
use Rattle.packet_forms.specs.Packets.{message_id, function_code, is_checksum_right, checksum_of, payload_of, is_command}
use Rattle.commands.specs.Verdicts.{verdict_at}
use Rattle.md_dwell.specs.Messages.{md_codes, md_name}
use Rattle.md_dwell.specs.Instructions.{instruction_of}
use Rattle.md_dwell.specs.Reading.{value_of}
use Rattle.md_dwell.specs.Verdicts.{is_readable}
use Rattle.md_dwell.proofs.laws.refusal_rows.Goals as goal

pub returns : goal.returns
unfolding be16_at be32_at message_id function_code is_checksum_right checksum_of payload_of is_command verdict_at md_codes md_name instruction_of value_of is_readable
returns c = record {
  checksum = refl;
  code = refl;
  length = refl;
  no_table = refl;
  fifth_table = refl;
  jammed_table = refl;
  entry = refl;
  entry_length = refl;
  read = refl;
}
