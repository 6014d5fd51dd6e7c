use Rattle.std.proofs.Common.{refl}
use Rattle.packet_forms.specs.Crc.{crc_of, low_bits, crc_bit}
use Rattle.packet_forms.specs.Hex.{hex}
use Rattle.packet_forms.specs.Names.{is_name, is_name_text, name_text, name_of}
use Rattle.packet_forms.specs.Numbers.{be16_at, be32_at, be16_bytes, be32_bytes}
use Rattle.row_forms.specs.Words.{words, digits, number, hex_said, name_said}
use Rattle.row_forms.specs.Lists.{listed}
use Rattle.row_forms.specs.Numbers.{choice_said, choice_shown, are_choices, bits_said, mask_said, bits_of, mask_shown, span_said, time_said}
use Rattle.row_forms.specs.Values.{steps_said, expression_said, steps_at, expression_shown, is_expression, value_said, can_show, value_shown, is_kind}
use Rattle.row_forms.specs.Rows.{behind_key, field_said, row_said, row_words, spaced, is_row}
use Rattle.row_forms.proofs.laws.worked_faults.Goals as goal

pub returns-clause-missing : goal.returns-clause-missing
unfolding words digits number hex_said name_said listed choice_said choice_shown are_choices bits_said mask_said bits_of mask_shown span_said time_said steps_said expression_said steps_at expression_shown is_expression value_said can_show value_shown is_kind behind_key field_said row_said row_words spaced is_row crc_of low_bits crc_bit be16_at be32_at be16_bytes be32_bytes hex is_name is_name_text name_text name_of
returns-clause-missing c = refl

pub returns-clause-extra : goal.returns-clause-extra
unfolding words digits number hex_said name_said listed choice_said choice_shown are_choices bits_said mask_said bits_of mask_shown span_said time_said steps_said expression_said steps_at expression_shown is_expression value_said can_show value_shown is_kind behind_key field_said row_said row_words spaced is_row crc_of low_bits crc_bit be16_at be32_at be16_bytes be32_bytes hex is_name is_name_text name_text name_of
returns-clause-extra c = refl

pub returns-clause-key : goal.returns-clause-key
unfolding words digits number hex_said name_said listed choice_said choice_shown are_choices bits_said mask_said bits_of mask_shown span_said time_said steps_said expression_said steps_at expression_shown is_expression value_said can_show value_shown is_kind behind_key field_said row_said row_words spaced is_row crc_of low_bits crc_bit be16_at be32_at be16_bytes be32_bytes hex is_name is_name_text name_text name_of
returns-clause-key c = refl

pub returns-clause-over : goal.returns-clause-over
unfolding words digits number hex_said name_said listed choice_said choice_shown are_choices bits_said mask_said bits_of mask_shown span_said time_said steps_said expression_said steps_at expression_shown is_expression value_said can_show value_shown is_kind behind_key field_said row_said row_words spaced is_row crc_of low_bits crc_bit be16_at be32_at be16_bytes be32_bytes hex is_name is_name_text name_text name_of
returns-clause-over c = refl

pub returns-clause-odd : goal.returns-clause-odd
unfolding words digits number hex_said name_said listed choice_said choice_shown are_choices bits_said mask_said bits_of mask_shown span_said time_said steps_said expression_said steps_at expression_shown is_expression value_said can_show value_shown is_kind behind_key field_said row_said row_words spaced is_row crc_of low_bits crc_bit be16_at be32_at be16_bytes be32_bytes hex is_name is_name_text name_text name_of
returns-clause-odd c = refl

pub returns-clause-name : goal.returns-clause-name
unfolding words digits number hex_said name_said listed choice_said choice_shown are_choices bits_said mask_said bits_of mask_shown span_said time_said steps_said expression_said steps_at expression_shown is_expression value_said can_show value_shown is_kind behind_key field_said row_said row_words spaced is_row crc_of low_bits crc_bit be16_at be32_at be16_bytes be32_bytes hex is_name is_name_text name_text name_of
returns-clause-name c = refl

pub returns-clause-step : goal.returns-clause-step
unfolding words digits number hex_said name_said listed choice_said choice_shown are_choices bits_said mask_said bits_of mask_shown span_said time_said steps_said expression_said steps_at expression_shown is_expression value_said can_show value_shown is_kind behind_key field_said row_said row_words spaced is_row crc_of low_bits crc_bit be16_at be32_at be16_bytes be32_bytes hex is_name is_name_text name_text name_of
returns-clause-step c = refl

pub returns-clause-falling : goal.returns-clause-falling
unfolding words digits number hex_said name_said listed choice_said choice_shown are_choices bits_said mask_said bits_of mask_shown span_said time_said steps_said expression_said steps_at expression_shown is_expression value_said can_show value_shown is_kind behind_key field_said row_said row_words spaced is_row crc_of low_bits crc_bit be16_at be32_at be16_bytes be32_bytes hex is_name is_name_text name_text name_of
returns-clause-falling c = refl

pub returns-clause-seventeenth : goal.returns-clause-seventeenth
unfolding words digits number hex_said name_said listed choice_said choice_shown are_choices bits_said mask_said bits_of mask_shown span_said time_said steps_said expression_said steps_at expression_shown is_expression value_said can_show value_shown is_kind behind_key field_said row_said row_words spaced is_row crc_of low_bits crc_bit be16_at be32_at be16_bytes be32_bytes hex is_name is_name_text name_text name_of
returns-clause-seventeenth c = refl

pub returns-clause-none : goal.returns-clause-none
unfolding words digits number hex_said name_said listed choice_said choice_shown are_choices bits_said mask_said bits_of mask_shown span_said time_said steps_said expression_said steps_at expression_shown is_expression value_said can_show value_shown is_kind behind_key field_said row_said row_words spaced is_row crc_of low_bits crc_bit be16_at be32_at be16_bytes be32_bytes hex is_name is_name_text name_text name_of
returns-clause-none c = refl

pub returns-clause-no_epoch : goal.returns-clause-no_epoch
unfolding words digits number hex_said name_said listed choice_said choice_shown are_choices bits_said mask_said bits_of mask_shown span_said time_said steps_said expression_said steps_at expression_shown is_expression value_said can_show value_shown is_kind behind_key field_said row_said row_words spaced is_row crc_of low_bits crc_bit be16_at be32_at be16_bytes be32_bytes hex is_name is_name_text name_text name_of
returns-clause-no_epoch c = refl

pub returns-clause-minutes : goal.returns-clause-minutes
unfolding words digits number hex_said name_said listed choice_said choice_shown are_choices bits_said mask_said bits_of mask_shown span_said time_said steps_said expression_said steps_at expression_shown is_expression value_said can_show value_shown is_kind behind_key field_said row_said row_words spaced is_row crc_of low_bits crc_bit be16_at be32_at be16_bytes be32_bytes hex is_name is_name_text name_text name_of
returns-clause-minutes c = refl

pub returns-clause-hours : goal.returns-clause-hours
unfolding words digits number hex_said name_said listed choice_said choice_shown are_choices bits_said mask_said bits_of mask_shown span_said time_said steps_said expression_said steps_at expression_shown is_expression value_said can_show value_shown is_kind behind_key field_said row_said row_words spaced is_row crc_of low_bits crc_bit be16_at be32_at be16_bytes be32_bytes hex is_name is_name_text name_text name_of
returns-clause-hours c = refl
