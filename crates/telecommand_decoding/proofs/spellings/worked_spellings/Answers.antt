use Rattle.std.proofs.Common.{refl}
use Rattle.std.specs.Fmt.{digits as written}
use Rattle.packet_forms.specs.Built.{command_of, primary_header, with_checksum}
use Rattle.packet_forms.specs.Crc.{crc_of, low_bits, crc_bit}
use Rattle.packet_forms.specs.Faults.{fault_of}
use Rattle.packet_forms.specs.Hex.{hex}
use Rattle.packet_forms.specs.Numbers.{be16_at, be32_at, be16_bytes, be32_bytes}
use Rattle.packet_forms.specs.Packets.{checksum_of, message_id, is_command, function_code, payload_of}
use Rattle.row_forms.specs.Words.{words, digits, number, hex_said}
use Rattle.row_forms.specs.Lists.{listed}
use Rattle.row_forms.specs.Numbers.{choice_said, choice_shown, bits_said, mask_said, bits_of, mask_shown, span_said, time_said}
use Rattle.row_forms.specs.Values.{value_said, can_show, value_shown, is_kind}
use Rattle.row_forms.specs.Rows.{behind_key, field_said, row_said, row_words, spaced, is_row}
use Rattle.telecommands.specs.Commands.{named, command_said, shows, showing, command_shown}
use Rattle.telecommands.specs.Dictionary.{dictionary, hs_rows, mm_rows, md_rows, cs_rows, sc_rows, lc_rows}
use Rattle.telecommand_decoding.proofs.spellings.worked_spellings.Goals as goal

pub returns-clause-start : goal.returns-clause-start
unfolding words digits number hex_said choice_said bits_said mask_said span_said time_said listed bits_of mask_shown choice_shown value_said can_show value_shown is_kind behind_key field_said row_said row_words spaced is_row crc_of low_bits crc_bit be16_at be32_at be16_bytes be32_bytes hex command_of primary_header with_checksum checksum_of message_id is_command function_code payload_of fault_of named command_said shows showing command_shown dictionary hs_rows mm_rows md_rows cs_rows sc_rows lc_rows written
returns-clause-start c = refl

pub returns-clause-started : goal.returns-clause-started
unfolding words digits number hex_said choice_said bits_said mask_said span_said time_said listed bits_of mask_shown choice_shown value_said can_show value_shown is_kind behind_key field_said row_said row_words spaced is_row crc_of low_bits crc_bit be16_at be32_at be16_bytes be32_bytes hex command_of primary_header with_checksum checksum_of message_id is_command function_code payload_of fault_of named command_said shows showing command_shown dictionary hs_rows mm_rows md_rows cs_rows sc_rows lc_rows written
returns-clause-started c = refl

pub returns-clause-stop : goal.returns-clause-stop
unfolding words digits number hex_said choice_said bits_said mask_said span_said time_said listed bits_of mask_shown choice_shown value_said can_show value_shown is_kind behind_key field_said row_said row_words spaced is_row crc_of low_bits crc_bit be16_at be32_at be16_bytes be32_bytes hex command_of primary_header with_checksum checksum_of message_id is_command function_code payload_of fault_of named command_said shows showing command_shown dictionary hs_rows mm_rows md_rows cs_rows sc_rows lc_rows written
returns-clause-stop c = refl

pub returns-clause-stopped : goal.returns-clause-stopped
unfolding words digits number hex_said choice_said bits_said mask_said span_said time_said listed bits_of mask_shown choice_shown value_said can_show value_shown is_kind behind_key field_said row_said row_words spaced is_row crc_of low_bits crc_bit be16_at be32_at be16_bytes be32_bytes hex command_of primary_header with_checksum checksum_of message_id is_command function_code payload_of fault_of named command_said shows showing command_shown dictionary hs_rows mm_rows md_rows cs_rows sc_rows lc_rows written
returns-clause-stopped c = refl

pub returns-clause-jump : goal.returns-clause-jump
unfolding words digits number hex_said choice_said bits_said mask_said span_said time_said listed bits_of mask_shown choice_shown value_said can_show value_shown is_kind behind_key field_said row_said row_words spaced is_row crc_of low_bits crc_bit be16_at be32_at be16_bytes be32_bytes hex command_of primary_header with_checksum checksum_of message_id is_command function_code payload_of fault_of named command_said shows showing command_shown dictionary hs_rows mm_rows md_rows cs_rows sc_rows lc_rows written
returns-clause-jump c = refl
