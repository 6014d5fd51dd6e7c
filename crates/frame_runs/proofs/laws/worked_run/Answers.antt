use Rattle.std.proofs.Common.{refl}
use Rattle.packet_forms.specs.Numbers.{be16_at, be32_at, be16_bytes, be32_bytes}
use Rattle.packet_forms.specs.Packets.{message_id, function_code, is_checksum_right, checksum_of, payload_of, is_command}
use Rattle.packet_forms.specs.Names.{name_of}
use Rattle.packet_forms.specs.Built.{telemetry_of, primary_header, event_of, event_payload}
use Rattle.histories.specs.Words.{along, along_after, joined_along}
use Rattle.histories.specs.Masks.{bits_of}
use Rattle.commands.specs.Verdicts.{verdict_at, verdicts_on, orders_in}
use Rattle.commands.specs.Inputs.{heard_along}
use Rattle.commands.specs.Counting.{accepted_count, error_count}
use Rattle.commands.specs.Answering.{packet_items, command_items}
use Rattle.mm_core.specs.Messages.{mm_codes, mm_name}
use Rattle.mm_core.specs.Instructions.{instruction_of}
use Rattle.mm_core.specs.Reading.{value_at, admission_of, protection_of}
use Rattle.mm_core.specs.Housekeeping.{open_regions, housekeeping_of}
use Rattle.mm_core.specs.Answers.{peek_packet}
use Rattle.mm_core.specs.Step.{mm_heard, mm_items, operations_of, mm_operations}
use Rattle.std.specs.Fmt.{digits}
use Rattle.packet_forms.specs.Built.{with_sequence}
use Rattle.packet_log.specs.Counts.{stamped, count_of}
use Rattle.packet_log.specs.Lines.{hex, packet_line}
use Rattle.bus_pipes.specs.Pipes.{pipe_of, offered, count_of_id}
use Rattle.bus_pipes.specs.Delivery.{after_offer_to, after_offer, drop_of, after_offers, drops_from}
use Rattle.active_tables.specs.Tables.{tables_of, blank_tables, lc_named}
use Rattle.table_files.specs.Files.{kind_at}
use Rattle.app_suite.specs.Activations.{tables_name}
use Rattle.frame_wires.specs.Sending.{sent_of}
use Rattle.frame_runs.specs.Runs.{beginning, table_events, image_at, cs_input_at, mm_input_at, md_input_at, items_at, operations_at, left_by, sent_at, resets_at, offers_at, lines_at, after_wakeups, activated_at, after_frame, run_of, frame_lines, log_of}
use Rattle.frame_runs.proofs.laws.worked_run.Goals as goal

pub returns-clause-answered : goal.returns-clause-answered
unfolding digits with_sequence name_of be16_at be32_at be16_bytes be32_bytes message_id function_code is_checksum_right checksum_of payload_of is_command telemetry_of primary_header event_of event_payload along along_after joined_along bits_of verdict_at verdicts_on orders_in heard_along accepted_count error_count packet_items command_items mm_codes mm_name instruction_of value_at admission_of protection_of open_regions housekeeping_of peek_packet mm_heard mm_items operations_of mm_operations stamped count_of hex packet_line pipe_of offered count_of_id after_offer_to after_offer drop_of after_offers drops_from tables_of blank_tables lc_named sent_of beginning image_at cs_input_at mm_input_at md_input_at items_at operations_at left_by sent_at resets_at offers_at lines_at activated_at table_events after_wakeups after_frame run_of frame_lines log_of
returns-clause-answered c = refl

pub returns-clause-refused : goal.returns-clause-refused
unfolding digits with_sequence name_of be16_at be32_at be16_bytes be32_bytes message_id function_code is_checksum_right checksum_of payload_of is_command telemetry_of primary_header event_of event_payload along along_after joined_along bits_of verdict_at verdicts_on orders_in heard_along accepted_count error_count packet_items command_items mm_codes mm_name instruction_of value_at admission_of protection_of open_regions housekeeping_of peek_packet mm_heard mm_items operations_of mm_operations stamped count_of hex packet_line pipe_of offered count_of_id after_offer_to after_offer drop_of after_offers drops_from tables_of blank_tables lc_named sent_of beginning image_at cs_input_at mm_input_at md_input_at items_at operations_at left_by sent_at resets_at offers_at lines_at activated_at table_events after_wakeups after_frame run_of frame_lines log_of kind_at tables_name
returns-clause-refused c = refl
