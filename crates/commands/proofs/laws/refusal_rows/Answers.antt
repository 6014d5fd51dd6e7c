use Rattle.std.proofs.Common.{refl}
use Rattle.packet_forms.specs.Numbers.{be16_at}
use Rattle.packet_forms.specs.Packets.{message_id, function_code, is_checksum_right, checksum_of, payload_of, is_command}
use Rattle.histories.specs.Words.{last_or}
use Rattle.commands.specs.Verdicts.{verdict_at}
use Rattle.commands.specs.Machine.{machine_codes, runs_after}
use Rattle.commands.proofs.laws.refusal_rows.Goals as goal

pub returns : goal.returns
unfolding be16_at message_id function_code is_checksum_right checksum_of payload_of is_command last_or verdict_at machine_codes runs_after
returns c = record {
  checksum = refl;
  code = refl;
  long = refl;
  short = refl;
  own = refl;
  accepted = refl;
  request = refl;
  wrong_request = refl;
  long_request = refl;
  other = refl;
}
