use Rattle.std.proofs.Common.{refl}
use Rattle.packet_forms.specs.Crc.{crc_of, low_bits, crc_bit}
use Rattle.packet_forms.specs.Hex.{hex}
use Rattle.packet_forms.specs.Names.{is_name, is_name_text, name_text, name_of}
use Rattle.packet_forms.specs.Numbers.{be16_at, be32_at, be16_bytes, be32_bytes}
use Rattle.row_forms.specs.Words.{words, digits, number, hex_said, name_said}
use Rattle.row_forms.specs.Lists.{listed}
use Rattle.row_forms.specs.Numbers.{choice_said, choice_shown, are_choices, bits_said, mask_said, bits_of, mask_shown, span_said, time_said}
use Rattle.row_forms.specs.Values.{steps_said, expression_said, steps_at, expression_shown, is_expression, value_said, can_show, value_shown, is_kind}
use Rattle.row_forms.specs.Rows.{behind_key, field_said, row_said, row_words, spaced, is_row}
use Rattle.row_forms.proofs.laws.worked_rows.Goals as goal

pub returns-clause-checked : goal.returns-clause-checked
unfolding words digits number hex_said name_said listed choice_said choice_shown are_choices bits_said mask_said bits_of mask_shown span_said time_said steps_said expression_said steps_at expression_shown is_expression value_said can_show value_shown is_kind behind_key field_said row_said row_words spaced is_row crc_of low_bits crc_bit be16_at be32_at be16_bytes be32_bytes hex is_name is_name_text name_text name_of
returns-clause-checked c = refl

pub returns-clause-block : goal.returns-clause-block
unfolding words digits number hex_said name_said listed choice_said choice_shown are_choices bits_said mask_said bits_of mask_shown span_said time_said steps_said expression_said steps_at expression_shown is_expression value_said can_show value_shown is_kind behind_key field_said row_said row_words spaced is_row crc_of low_bits crc_bit be16_at be32_at be16_bytes be32_bytes hex is_name is_name_text name_text name_of
returns-clause-block c = refl

pub returns-clause-named : goal.returns-clause-named
unfolding words digits number hex_said name_said listed choice_said choice_shown are_choices bits_said mask_said bits_of mask_shown span_said time_said steps_said expression_said steps_at expression_shown is_expression value_said can_show value_shown is_kind behind_key field_said row_said row_words spaced is_row crc_of low_bits crc_bit be16_at be32_at be16_bytes be32_bytes hex is_name is_name_text name_text name_of
returns-clause-named c = refl

pub returns-clause-expression : goal.returns-clause-expression
unfolding words digits number hex_said name_said listed choice_said choice_shown are_choices bits_said mask_said bits_of mask_shown span_said time_said steps_said expression_said steps_at expression_shown is_expression value_said can_show value_shown is_kind behind_key field_said row_said row_words spaced is_row crc_of low_bits crc_bit be16_at be32_at be16_bytes be32_bytes hex is_name is_name_text name_text name_of
returns-clause-expression c = refl

pub returns-clause-right : goal.returns-clause-right
unfolding words digits number hex_said name_said listed choice_said choice_shown are_choices bits_said mask_said bits_of mask_shown span_said time_said steps_said expression_said steps_at expression_shown is_expression value_said can_show value_shown is_kind behind_key field_said row_said row_words spaced is_row crc_of low_bits crc_bit be16_at be32_at be16_bytes be32_bytes hex is_name is_name_text name_text name_of
returns-clause-right c = refl

pub returns-clause-wrong : goal.returns-clause-wrong
unfolding words digits number hex_said name_said listed choice_said choice_shown are_choices bits_said mask_said bits_of mask_shown span_said time_said steps_said expression_said steps_at expression_shown is_expression value_said can_show value_shown is_kind behind_key field_said row_said row_words spaced is_row crc_of low_bits crc_bit be16_at be32_at be16_bytes be32_bytes hex is_name is_name_text name_text name_of
returns-clause-wrong c = refl
