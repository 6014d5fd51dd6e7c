use Rattle.std.proofs.Common.{refl}
use Rattle.packet_forms.specs.Numbers.{be16_at}
use Rattle.packet_forms.specs.Packets.{message_id, function_code, is_checksum_right, checksum_of, payload_of, is_command}
use Rattle.commands.specs.Verdicts.{verdict_at}
use Rattle.lc_watch.specs.Messages.{lc_codes, lc_name}
use Rattle.lc_watch.specs.Instructions.{instruction_of}
use Rattle.lc_watch.proofs.laws.command_rows.Goals as goal

pub returns : goal.returns
unfolding be16_at message_id function_code is_checksum_right checksum_of payload_of is_command verdict_at lc_codes lc_name instruction_of
returns c = record {
  noop = refl;
  reset = refl;
  active = refl;
  passive = refl;
  request = refl;
  other = refl;
  checksum = refl;
  code = refl;
  length = refl;
  no_number = refl;
  past_numbers = refl;
  unused = refl;
  switches = refl;
}
