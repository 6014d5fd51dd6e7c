use Rattle.std.proofs.Common.{refl}
use Rattle.packet_forms.specs.Built.{command_of, primary_header, with_checksum}
use Rattle.packet_forms.specs.Faults.{fault_of}
use Rattle.packet_forms.specs.Names.{is_name, is_name_text, name_text, name_of as named_bytes}
use Rattle.packet_forms.specs.Numbers.{be16_at, be32_at, be16_bytes, be32_bytes}
use Rattle.packet_forms.specs.Packets.{version_of, sequence_flags, length_field, checksum_of, message_id, is_command}
use Rattle.row_forms.specs.Words.{words, digits, number, hex_said, name_said}
use Rattle.row_forms.specs.Numbers.{choice_said, time_said}
use Rattle.row_forms.specs.Values.{steps_said, expression_said, steps_at, value_said}
use Rattle.row_forms.specs.Rows.{behind_key, field_said, row_said}
use Rattle.telecommands.specs.Commands.{named, command_said}
use Rattle.telecommands.specs.Dictionary.{dictionary, hs_rows, mm_rows, md_rows, cs_rows, sc_rows, lc_rows}
use Rattle.table_files.specs.Headers.{payload_of_file, is_load, subtype}
use Rattle.table_files.specs.Entries as table_entries
use Rattle.table_texts.specs.Lines.{lines_of, kept}
use Rattle.table_texts.specs.Entries.{values_said, entry_said, entries_said}
use Rattle.table_texts.specs.Fronts.{front_said}
use Rattle.table_texts.specs.Sequences.{item_said, sequence_said}
use Rattle.hs_tables.specs.Apps as apps
use Rattle.hs_tables.specs.Events as events
use Rattle.hs_tables.specs.Counters as counters
use Rattle.hs_tables.specs.Actions as actions
use Rattle.md_dwell.specs.Tables.{dwell_of, entries_in}
use Rattle.cs_slices.specs.Tables.{segments_of}
use Rattle.lc_watch.specs.Watchpoints as watchpoints
use Rattle.lc_watch.specs.Actionpoints as actionpoints
use Rattle.lc_watch.specs.Expressions.{words_at}
use Rattle.sc_tables.specs.Absolute.{stored_ats, timed_at, timed_size, timed_reason}
use Rattle.sc_tables.specs.Relative.{stored_rts, relative_at, relative_size, relative_reason}
use Rattle.sc_tables.specs.Heads.{packet_size, is_command_head, packet_reason, packet_of}
use Rattle.sc_tables.specs.Spelling.{timed_spelled, relative_spelled}
use Rattle.sc_tables.specs.Grammar.{is_end, read_from, read_of}
use Rattle.table_forms.specs.Headers.{header_said}
use Rattle.table_forms.specs.Layouts.{all_layouts, actions as action_words, event_actions, message_states, entry_states, point_states, value_types, operators, steps}
use Rattle.table_forms.specs.Names.{name_of, kinds, kind_among, kind_said}
use Rattle.table_forms.specs.Payloads.{headed_said}
use Rattle.table_forms.specs.Reading.{first_said}
use Rattle.table_meanings.specs.Meanings.{meanings_said}
use Rattle.table_meanings.specs.Entries.{entry_number, line_about}
use Rattle.table_meanings.specs.Tables.{counter_of, app_of, event_of, dwell_entry_of, segment_of, watchpoint_of, actionpoint_of, counters_meaning, apps_meaning, events_meaning, dwells_meaning, segments_meaning, watchpoints_meaning, actionpoints_meaning, message_meant, messages_meaning}
use Rattle.table_meanings.specs.Sequences.{timed_meant, relative_meant, bytes_meant, sequence_meant}
use Rattle.table_meanings.specs.Worked.{absolute_text, absolute_commands, relative_text, relative_commands, bytes_text, bytes_left, bytes_commands}
use Rattle.table_meanings.proofs.worked.sequence_texts_in_commands.Goals as goal

pub returns-clause-absolute : goal.returns-clause-absolute
unfolding command_of primary_header with_checksum fault_of is_name is_name_text name_text named_bytes be16_at be32_at be16_bytes be32_bytes version_of sequence_flags length_field checksum_of message_id is_command words digits number hex_said name_said choice_said time_said steps_said expression_said steps_at value_said behind_key field_said row_said named command_said dictionary hs_rows mm_rows md_rows cs_rows sc_rows lc_rows lines_of kept all_layouts action_words event_actions message_states entry_states point_states value_types operators steps meanings_said entry_number line_about counter_of app_of event_of dwell_entry_of segment_of watchpoint_of actionpoint_of counters_meaning apps_meaning events_meaning dwells_meaning segments_meaning watchpoints_meaning actionpoints_meaning message_meant messages_meaning timed_meant relative_meant bytes_meant sequence_meant timed_spelled relative_spelled actions.packet_in words_at absolute_text absolute_commands
returns-clause-absolute c = refl

pub returns-clause-absolute_read : goal.returns-clause-absolute_read
unfolding command_of primary_header with_checksum fault_of is_name is_name_text name_text named_bytes be16_at be32_at be16_bytes be32_bytes version_of sequence_flags length_field checksum_of message_id is_command words digits number hex_said name_said choice_said time_said steps_said expression_said steps_at value_said behind_key field_said row_said named command_said dictionary hs_rows mm_rows md_rows cs_rows sc_rows lc_rows lines_of kept all_layouts action_words event_actions message_states entry_states point_states value_types operators steps payload_of_file is_load subtype table_entries.entries_in values_said entry_said entries_said front_said item_said sequence_said apps.rows_of events.rows_of counters.rows_of actions.rows_of actions.packet_in dwell_of entries_in segments_of watchpoints.rows_of actionpoints.rows_of words_at stored_ats timed_at timed_size timed_reason stored_rts relative_at relative_size relative_reason packet_size is_command_head packet_reason packet_of is_end read_from read_of header_said name_of kinds kind_among kind_said headed_said first_said absolute_text absolute_commands
returns-clause-absolute_read c = refl

pub returns-clause-relative : goal.returns-clause-relative
unfolding command_of primary_header with_checksum fault_of is_name is_name_text name_text named_bytes be16_at be32_at be16_bytes be32_bytes version_of sequence_flags length_field checksum_of message_id is_command words digits number hex_said name_said choice_said time_said steps_said expression_said steps_at value_said behind_key field_said row_said named command_said dictionary hs_rows mm_rows md_rows cs_rows sc_rows lc_rows lines_of kept all_layouts action_words event_actions message_states entry_states point_states value_types operators steps meanings_said entry_number line_about counter_of app_of event_of dwell_entry_of segment_of watchpoint_of actionpoint_of counters_meaning apps_meaning events_meaning dwells_meaning segments_meaning watchpoints_meaning actionpoints_meaning message_meant messages_meaning timed_meant relative_meant bytes_meant sequence_meant timed_spelled relative_spelled actions.packet_in words_at relative_text relative_commands
returns-clause-relative c = refl

pub returns-clause-relative_read : goal.returns-clause-relative_read
unfolding command_of primary_header with_checksum fault_of is_name is_name_text name_text named_bytes be16_at be32_at be16_bytes be32_bytes version_of sequence_flags length_field checksum_of message_id is_command words digits number hex_said name_said choice_said time_said steps_said expression_said steps_at value_said behind_key field_said row_said named command_said dictionary hs_rows mm_rows md_rows cs_rows sc_rows lc_rows lines_of kept all_layouts action_words event_actions message_states entry_states point_states value_types operators steps payload_of_file is_load subtype table_entries.entries_in values_said entry_said entries_said front_said item_said sequence_said apps.rows_of events.rows_of counters.rows_of actions.rows_of actions.packet_in dwell_of entries_in segments_of watchpoints.rows_of actionpoints.rows_of words_at stored_ats timed_at timed_size timed_reason stored_rts relative_at relative_size relative_reason packet_size is_command_head packet_reason packet_of is_end read_from read_of header_said name_of kinds kind_among kind_said headed_said first_said relative_text relative_commands
returns-clause-relative_read c = refl

pub returns-clause-bytes : goal.returns-clause-bytes
unfolding command_of primary_header with_checksum fault_of is_name is_name_text name_text named_bytes be16_at be32_at be16_bytes be32_bytes version_of sequence_flags length_field checksum_of message_id is_command words digits number hex_said name_said choice_said time_said steps_said expression_said steps_at value_said behind_key field_said row_said named command_said dictionary hs_rows mm_rows md_rows cs_rows sc_rows lc_rows lines_of kept all_layouts action_words event_actions message_states entry_states point_states value_types operators steps meanings_said entry_number line_about counter_of app_of event_of dwell_entry_of segment_of watchpoint_of actionpoint_of counters_meaning apps_meaning events_meaning dwells_meaning segments_meaning watchpoints_meaning actionpoints_meaning message_meant messages_meaning timed_meant relative_meant bytes_meant sequence_meant timed_spelled relative_spelled actions.packet_in words_at bytes_text bytes_left relative_commands
returns-clause-bytes c = refl

pub returns-clause-bytes_read : goal.returns-clause-bytes_read
unfolding command_of primary_header with_checksum fault_of is_name is_name_text name_text named_bytes be16_at be32_at be16_bytes be32_bytes version_of sequence_flags length_field checksum_of message_id is_command words digits number hex_said name_said choice_said time_said steps_said expression_said steps_at value_said behind_key field_said row_said named command_said dictionary hs_rows mm_rows md_rows cs_rows sc_rows lc_rows lines_of kept all_layouts action_words event_actions message_states entry_states point_states value_types operators steps payload_of_file is_load subtype table_entries.entries_in values_said entry_said entries_said front_said item_said sequence_said apps.rows_of events.rows_of counters.rows_of actions.rows_of actions.packet_in dwell_of entries_in segments_of watchpoints.rows_of actionpoints.rows_of words_at stored_ats timed_at timed_size timed_reason stored_rts relative_at relative_size relative_reason packet_size is_command_head packet_reason packet_of is_end read_from read_of header_said name_of kinds kind_among kind_said headed_said first_said bytes_text bytes_commands
returns-clause-bytes_read c = refl
