use Rattle.std.proofs.Common.{refl}
use Rattle.std.specs.Fmt.{digits as written}
use Rattle.packet_forms.specs.Crc.{crc_of, low_bits, crc_bit}
use Rattle.packet_forms.specs.Hex.{hex}
use Rattle.packet_forms.specs.Names.{is_name, is_name_text, name_text, name_of}
use Rattle.packet_forms.specs.Numbers.{be16_at, be32_at, be16_bytes, be32_bytes}
use Rattle.row_forms.specs.Words.{words, digits, number, hex_said, name_said}
use Rattle.row_forms.specs.Lists.{listed}
use Rattle.row_forms.specs.Numbers.{choice_said, choice_shown, are_choices, bits_said, mask_said, bits_of, mask_shown, span_said, time_said}
use Rattle.row_forms.specs.Values.{steps_said, expression_said, steps_at, expression_shown, is_expression, value_said, can_show, value_shown, is_kind}
use Rattle.row_forms.specs.Rows.{behind_key, field_said, row_said, row_words, spaced, is_row}
use Rattle.row_forms.proofs.laws.worked_numbers.Goals as goal

pub returns-clause-said : goal.returns-clause-said
unfolding words digits number hex_said name_said listed choice_said choice_shown are_choices bits_said mask_said bits_of mask_shown span_said time_said steps_said expression_said steps_at expression_shown is_expression value_said can_show value_shown is_kind behind_key field_said row_said row_words spaced is_row crc_of low_bits crc_bit be16_at be32_at be16_bytes be32_bytes hex is_name is_name_text name_text name_of
returns-clause-said c = refl

pub returns-clause-shown : goal.returns-clause-shown
unfolding written words digits number hex_said name_said listed choice_said choice_shown are_choices bits_said mask_said bits_of mask_shown span_said time_said steps_said expression_said steps_at expression_shown is_expression value_said can_show value_shown is_kind behind_key field_said row_said row_words spaced is_row crc_of low_bits crc_bit be16_at be32_at be16_bytes be32_bytes hex is_name is_name_text name_text name_of
returns-clause-shown c = refl

pub returns-clause-other : goal.returns-clause-other
unfolding words digits number hex_said name_said listed choice_said choice_shown are_choices bits_said mask_said bits_of mask_shown span_said time_said steps_said expression_said steps_at expression_shown is_expression value_said can_show value_shown is_kind behind_key field_said row_said row_words spaced is_row crc_of low_bits crc_bit be16_at be32_at be16_bytes be32_bytes hex is_name is_name_text name_text name_of
returns-clause-other c = refl

pub returns-clause-fields : goal.returns-clause-fields
unfolding words digits number hex_said name_said listed choice_said choice_shown are_choices bits_said mask_said bits_of mask_shown span_said time_said steps_said expression_said steps_at expression_shown is_expression value_said can_show value_shown is_kind behind_key field_said row_said row_words spaced is_row crc_of low_bits crc_bit be16_at be32_at be16_bytes be32_bytes hex is_name is_name_text name_text name_of
returns-clause-fields c = refl
