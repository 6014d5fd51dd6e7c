use Rattle.std.proofs.Common.{refl}
use Rattle.packet_forms.specs.Numbers.{be16_at}
use Rattle.packet_forms.specs.Packets.{message_id, function_code, is_checksum_right, checksum_of, payload_of, is_command}
use Rattle.commands.specs.Verdicts.{verdict_at}
use Rattle.hs_monitors.specs.Messages.{hs_codes}
use Rattle.hs_monitors.specs.Instructions.{instruction_of}
use Rattle.hs_monitors.proofs.laws.command_rows.Goals as goal

pub returns : goal.returns
unfolding be16_at message_id function_code is_checksum_right checksum_of payload_of is_command verdict_at hs_codes instruction_of
returns c = record {
  noop = refl;
  reset = refl;
  monitor = refl;
  ignore = refl;
  listen = refl;
  deafen = refl;
  clear = refl;
  limit = refl;
  request = refl;
  other = refl;
}
