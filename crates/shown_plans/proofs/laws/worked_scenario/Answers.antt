use Rattle.std.proofs.Common.{refl}
use Rattle.std.specs.Fmt.{digits as written}
use Rattle.packet_forms.specs.Built.{command_of, primary_header, with_checksum}
use Rattle.packet_forms.specs.Faults.{fault_of}
use Rattle.packet_forms.specs.Hex.{hex}
use Rattle.packet_forms.specs.Numbers.{be16_at, be32_at, be16_bytes, be32_bytes}
use Rattle.packet_forms.specs.Packets.{version_of, sequence_flags, length_field, checksum_of, message_id, is_command, function_code, payload_of}
use Rattle.row_forms.specs.Words.{words, hex_said}
use Rattle.row_forms.specs.Lists.{listed}
use Rattle.row_forms.specs.Numbers.{choice_shown, bits_of, mask_shown}
use Rattle.row_forms.specs.Values.{can_show, value_shown, is_kind}
use Rattle.row_forms.specs.Rows.{row_words, spaced, is_row}
use Rattle.telecommands.specs.Commands.{shows, showing, command_shown}
use Rattle.telecommands.specs.Dictionary.{dictionary, hs_rows, mm_rows, md_rows, cs_rows, sc_rows, lc_rows}
use Rattle.table_texts.specs.Lines.{lines_of, kept}
use Rattle.shown_plans.specs.Shown.{heading, line_shown, lines_shown, plan_shown, plain_line, plain_lines}
use Rattle.shown_plans.specs.Worked.{scenario, plain_scenario, plan}
use Rattle.shown_plans.proofs.laws.worked_scenario.Goals as goal

pub returns-clause-plain : goal.returns-clause-plain
unfolding lines_of kept words hex_said hex spaced plain_line plain_lines scenario plain_scenario
returns-clause-plain c = refl

pub returns-clause-plan : goal.returns-clause-plan
unfolding version_of sequence_flags length_field words hex_said listed bits_of mask_shown choice_shown can_show value_shown is_kind row_words spaced is_row be16_at be32_at be16_bytes be32_bytes hex command_of primary_header with_checksum checksum_of message_id is_command function_code payload_of fault_of shows showing command_shown dictionary hs_rows mm_rows md_rows cs_rows sc_rows lc_rows written lines_of kept heading line_shown lines_shown plan_shown scenario plan
returns-clause-plan c = refl
