use Rattle.std.proofs.Common.{refl}
use Rattle.std.specs.Fmt.{digits as written}
use Rattle.packet_forms.specs.Built.{command_of, primary_header, with_checksum}
use Rattle.packet_forms.specs.Crc.{crc_of, low_bits, crc_bit}
use Rattle.packet_forms.specs.Faults.{fault_of}
use Rattle.packet_forms.specs.Hex.{hex}
use Rattle.packet_forms.specs.Names.{is_name, is_name_text, name_text, name_of as named_bytes}
use Rattle.packet_forms.specs.Numbers.{be16_at, be32_at, be16_bytes, be32_bytes}
use Rattle.packet_forms.specs.Packets.{version_of, sequence_flags, length_field, checksum_of, message_id, is_command, function_code, payload_of}
use Rattle.row_forms.specs.Words.{words, digits, number, hex_said, name_said}
use Rattle.row_forms.specs.Lists.{listed}
use Rattle.row_forms.specs.Numbers.{choice_said, choice_shown, bits_said, mask_said, bits_of, mask_shown, span_said, time_said}
use Rattle.row_forms.specs.Values.{steps_said, expression_said, steps_at, expression_shown, is_expression, value_said, can_show, value_shown, is_kind}
use Rattle.row_forms.specs.Rows.{behind_key, field_said, row_said, row_words, spaced, is_row}
use Rattle.telecommands.specs.Commands.{named, command_said, shows, showing, command_shown}
use Rattle.telecommands.specs.Dictionary.{dictionary, hs_rows, mm_rows, md_rows, cs_rows, sc_rows, lc_rows}
use Rattle.table_texts.specs.Lines.{lines_of, kept}
use Rattle.table_texts.specs.Entries.{values_said, entry_said, entries_said}
use Rattle.table_texts.specs.Fronts.{front_said, is_command_at}
use Rattle.table_texts.specs.Sequences.{item_said, sequence_said, sequence_shown}
use Rattle.table_texts.specs.Shown.{can_show as can_show_entry, values_shown, entries_shown}
use Rattle.table_forms.specs.Headers.{header_said}
use Rattle.table_forms.specs.Layouts.{all_layouts, actions, event_actions, message_states, entry_states, point_states, value_types, operators, steps}
use Rattle.table_forms.specs.Names.{name_of, kinds, kind_among, kind_said}
use Rattle.table_forms.specs.Payloads.{headed_said}
use Rattle.table_forms.specs.Reading.{first_said}
use Rattle.table_forms.specs.Examples.{command_examples, actions_example, absolute_example, relative_example}
use Rattle.table_forms.proofs.laws.command_tables_in_words.Goals as goal

pub returns-clause-said : goal.returns-clause-said
unfolding written version_of sequence_flags length_field command_of primary_header with_checksum crc_of low_bits crc_bit fault_of hex is_name is_name_text name_text named_bytes be16_at be32_at be16_bytes be32_bytes checksum_of message_id is_command function_code payload_of words digits number hex_said name_said listed choice_said choice_shown bits_said mask_said bits_of mask_shown span_said time_said steps_said expression_said steps_at expression_shown is_expression value_said can_show value_shown is_kind behind_key field_said row_said row_words spaced is_row named command_said shows showing command_shown dictionary hs_rows mm_rows md_rows cs_rows sc_rows lc_rows lines_of kept values_said entry_said entries_said front_said is_command_at item_said sequence_said sequence_shown can_show_entry values_shown entries_shown header_said all_layouts actions event_actions message_states entry_states point_states value_types operators steps name_of kinds kind_among kind_said headed_said first_said command_examples actions_example absolute_example relative_example
returns-clause-said c = refl

pub returns-clause-shown : goal.returns-clause-shown
unfolding written version_of sequence_flags length_field command_of primary_header with_checksum crc_of low_bits crc_bit fault_of hex is_name is_name_text name_text named_bytes be16_at be32_at be16_bytes be32_bytes checksum_of message_id is_command function_code payload_of words digits number hex_said name_said listed choice_said choice_shown bits_said mask_said bits_of mask_shown span_said time_said steps_said expression_said steps_at expression_shown is_expression value_said can_show value_shown is_kind behind_key field_said row_said row_words spaced is_row named command_said shows showing command_shown dictionary hs_rows mm_rows md_rows cs_rows sc_rows lc_rows lines_of kept values_said entry_said entries_said front_said is_command_at item_said sequence_said sequence_shown can_show_entry values_shown entries_shown header_said all_layouts actions event_actions message_states entry_states point_states value_types operators steps name_of kinds kind_among kind_said headed_said first_said command_examples actions_example absolute_example relative_example
returns-clause-shown c = refl
