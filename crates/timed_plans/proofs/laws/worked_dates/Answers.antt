use Rattle.std.proofs.Common.{refl}
use Rattle.std.specs.Fmt.{digits as written}
use Rattle.packet_forms.specs.Built.{command_of, primary_header, with_checksum}
use Rattle.packet_forms.specs.Crc.{crc_of, low_bits, crc_bit}
use Rattle.packet_forms.specs.Faults.{fault_of}
use Rattle.packet_forms.specs.Hex.{hex}
use Rattle.packet_forms.specs.Numbers.{be16_at, be32_at, be16_bytes, be32_bytes}
use Rattle.packet_forms.specs.Packets.{version_of, sequence_flags, length_field, checksum_of, message_id, is_command, function_code, payload_of}
use Rattle.row_forms.specs.Words.{words, digits, number, hex_said}
use Rattle.row_forms.specs.Lists.{listed}
use Rattle.row_forms.specs.Numbers.{choice_said, choice_shown, bits_said, mask_said, bits_of, mask_shown, span_said, time_said}
use Rattle.row_forms.specs.Values.{value_said, can_show, value_shown, is_kind}
use Rattle.row_forms.specs.Rows.{behind_key, field_said, row_said, row_words, spaced, is_row}
use Rattle.telecommands.specs.Commands.{named, command_said, shows, showing, command_shown}
use Rattle.telecommands.specs.Dictionary.{dictionary, hs_rows, mm_rows, md_rows, cs_rows, sc_rows, lc_rows}
use Rattle.table_texts.specs.Lines.{lines_of, kept}
use Rattle.calendar_dates.specs.Calendar.{year_days, month_days, total, day_number}
use Rattle.calendar_dates.specs.Instants.{date_said, time_of_day_said, instant_at, instant_said, second_behind, gap_to, second_said}
use Rattle.timed_plans.specs.Times.{frame_of_word, dated_second, dated_word, dated_words}
use Rattle.timed_plans.specs.Kinds.{kind_of}
use Rattle.timed_plans.specs.Headings.{stepped}
use Rattle.timed_plans.specs.Schedules.{spread, lines_at, frames_from}
use Rattle.plan_text.specs.Lines.{text_of}
use Rattle.plan_text.specs.Plans.{frame_of_time, packet_sent}
use Rattle.timed_plans.specs.Plans.{period_said, extended, lines_said, schedule_said}
use Rattle.timed_plans.specs.Worked.{dated_plan, dated_scenario}
use Rattle.timed_plans.proofs.laws.worked_dates.Goals as goal

pub returns : goal.returns
unfolding year_days month_days total day_number date_said time_of_day_said instant_at instant_said second_behind gap_to second_said frame_of_word dated_second dated_word dated_words version_of sequence_flags length_field words digits number hex_said choice_said bits_said mask_said span_said time_said listed bits_of mask_shown choice_shown value_said can_show value_shown is_kind behind_key field_said row_said row_words spaced is_row crc_of low_bits crc_bit be16_at be32_at be16_bytes be32_bytes hex command_of primary_header with_checksum checksum_of message_id is_command function_code payload_of fault_of named command_said shows showing command_shown dictionary hs_rows mm_rows md_rows cs_rows sc_rows lc_rows written lines_of kept kind_of stepped spread lines_at frames_from period_said extended text_of frame_of_time packet_sent lines_said schedule_said dated_plan dated_scenario
returns c = refl
