use Rattle.std.proofs.Common.{refl}
use Rattle.std.specs.Fmt.{digits as written}
use Rattle.packet_forms.specs.Built.{telemetry_of, with_sequence, primary_header}
use Rattle.packet_forms.specs.Faults.{fault_of}
use Rattle.packet_forms.specs.Hex.{hex}
use Rattle.packet_forms.specs.Names.{is_name_text, name_text, name_of, is_name}
use Rattle.packet_forms.specs.Numbers.{be16_at, be32_at, be16_bytes, be32_bytes}
use Rattle.packet_forms.specs.Packets.{message_id, sequence_count}
use Rattle.row_forms.specs.Words.{words, digits, number, hex_said, name_said}
use Rattle.row_forms.specs.Lists.{listed}
use Rattle.row_forms.specs.Numbers.{choice_said, choice_shown, bits_said, mask_said, bits_of, mask_shown, span_said, time_said}
use Rattle.row_forms.specs.Values.{value_said, can_show, value_shown, is_kind}
use Rattle.row_forms.specs.Rows.{behind_key, field_said, row_said, row_words, spaced, is_row}
use Rattle.telemetry.specs.Telemetry.{named, telemetry_said, content_of, packet_of, shows, showing, telemetry_shown}
use Rattle.telemetry.specs.Dictionary.{dictionary, hs_rows, mm_rows, md_rows, cs_rows, sc_rows, lc_rows, event_rows}
use Rattle.telemetry.specs.Examples.{cs_examples}
use Rattle.telemetry.proofs.laws.cs_telemetry_in_words.Goals as goal

pub returns-clause-said : goal.returns-clause-said
unfolding words digits number hex_said name_said is_name_text name_of name_text is_name choice_said bits_said mask_said listed bits_of mask_shown choice_shown time_said span_said value_said can_show value_shown is_kind behind_key field_said row_said row_words spaced is_row be16_at be32_at be16_bytes be32_bytes hex telemetry_of with_sequence primary_header message_id sequence_count fault_of named telemetry_said content_of packet_of shows showing telemetry_shown dictionary hs_rows mm_rows md_rows cs_rows sc_rows lc_rows event_rows written cs_examples
returns-clause-said c = refl

pub returns-clause-shown : goal.returns-clause-shown
unfolding words digits number hex_said name_said is_name_text name_of name_text is_name choice_said bits_said mask_said listed bits_of mask_shown choice_shown time_said span_said value_said can_show value_shown is_kind behind_key field_said row_said row_words spaced is_row be16_at be32_at be16_bytes be32_bytes hex telemetry_of with_sequence primary_header message_id sequence_count fault_of named telemetry_said content_of packet_of shows showing telemetry_shown dictionary hs_rows mm_rows md_rows cs_rows sc_rows lc_rows event_rows written cs_examples
returns-clause-shown c = refl
