use Rattle.std.proofs.Common.{refl}
use Rattle.packet_forms.specs.Numbers.{be16_at}
use Rattle.packet_forms.specs.Packets.{message_id, function_code, is_checksum_right, checksum_of, payload_of, is_command}
use Rattle.commands.specs.Verdicts.{verdict_at}
use Rattle.cs_slices.specs.Messages.{cs_codes}
use Rattle.cs_slices.specs.Tables.{entry_in}
use Rattle.cs_slices.specs.Instructions.{instruction_of}
use Rattle.cs_slices.proofs.laws.command_rows.Goals as goal

pub returns : goal.returns
unfolding be16_at message_id function_code is_checksum_right checksum_of payload_of is_command verdict_at cs_codes entry_in instruction_of
returns c = record {
  noop = refl;
  reset = refl;
  on = refl;
  off = refl;
  table_on = refl;
  table_off = refl;
  entry_on = refl;
  entry_off = refl;
  report = refl;
  request = refl;
  other = refl;
}
