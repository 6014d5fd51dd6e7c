use Rattle.std.proofs.Common.{refl}
use Rattle.packet_forms.specs.Numbers.{be16_at, be32_at}
use Rattle.packet_forms.specs.Packets.{message_id, function_code, is_checksum_right, checksum_of, payload_of, is_command}
use Rattle.commands.specs.Verdicts.{verdict_at}
use Rattle.md_dwell.specs.Messages.{md_codes, md_name}
use Rattle.md_dwell.specs.Instructions.{instruction_of}
use Rattle.md_dwell.specs.Reading.{value_of}
use Rattle.md_dwell.specs.Verdicts.{is_readable}
use Rattle.md_dwell.proofs.laws.command_rows.Goals as goal

pub returns : goal.returns
unfolding be16_at be32_at message_id function_code is_checksum_right checksum_of payload_of is_command verdict_at md_codes md_name instruction_of value_of is_readable
returns c = record {
  noop = refl;
  reset = refl;
  start = refl;
  stop = refl;
  jam = refl;
  request = refl;
  other = refl;
}
