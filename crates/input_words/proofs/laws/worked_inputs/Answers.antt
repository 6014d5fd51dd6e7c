use Rattle.std.proofs.Common.{refl}
use Rattle.std.specs.Fmt.{digits as written}
use Rattle.packet_forms.specs.Built.{command_of, telemetry_of, with_sequence, with_checksum, primary_header}
use Rattle.packet_forms.specs.Hex.{hex}
use Rattle.packet_forms.specs.Numbers.{be16_at, be32_at, be16_bytes, be32_bytes}
use Rattle.packet_forms.specs.Packets.{message_id, version_of, sequence_flags, sequence_count, length_field, is_command, function_code, checksum_of, payload_of}
use Rattle.packet_forms.specs.Names.{is_name, is_name_text, name_text, name_of}
use Rattle.row_forms.specs.Words.{digits, name_said}
use Rattle.row_forms.specs.Lists.{listed}
use Rattle.row_forms.specs.Numbers.{choice_shown, bits_of, mask_shown}
use Rattle.row_forms.specs.Values.{steps_at, expression_shown, is_expression, can_show, value_shown}
use Rattle.row_forms.specs.Rows.{row_words, spaced, is_row}
use Rattle.telecommands.specs.Commands.{shows as shows_command, showing as showing_command, command_shown}
use Rattle.telecommands.specs.Dictionary.{dictionary as command_dictionary, hs_rows as hs_commands, mm_rows as mm_commands, md_rows as md_commands, cs_rows as cs_commands, sc_rows as sc_commands, lc_rows as lc_commands}
use Rattle.telemetry.specs.Telemetry.{content_of, packet_of, shows, showing, telemetry_shown}
use Rattle.telemetry.specs.Dictionary.{dictionary, hs_rows, mm_rows, md_rows, cs_rows, sc_rows, lc_rows, event_rows}
use Rattle.log_words.specs.Sentences.{packet_words}
use Rattle.input_words.specs.Inputs.{inputs_told}
use Rattle.input_words.proofs.laws.worked_inputs.Goals as goal

pub returns : goal.returns
unfolding written command_of telemetry_of with_sequence with_checksum primary_header hex be16_at be32_at be16_bytes be32_bytes message_id version_of sequence_flags sequence_count length_field is_command function_code checksum_of payload_of is_name is_name_text name_text name_of digits name_said listed choice_shown bits_of mask_shown steps_at expression_shown is_expression can_show value_shown row_words spaced is_row shows_command showing_command command_shown command_dictionary hs_commands mm_commands md_commands cs_commands sc_commands lc_commands content_of packet_of shows showing telemetry_shown dictionary hs_rows mm_rows md_rows cs_rows sc_rows lc_rows event_rows packet_words inputs_told
returns c = record {
  upset = refl;
  frame = refl;
  command = refl;
  strange = refl;
  activation = refl;
  missing = refl;
}
