use Rattle.std.proofs.Common.{refl}
use Rattle.std.specs.Fmt.{digits as written}
use Rattle.packet_forms.specs.Crc.{crc_of, low_bits, crc_bit}
use Rattle.packet_forms.specs.Hex.{hex}
use Rattle.packet_forms.specs.Numbers.{be16_at, be32_at, be16_bytes, be32_bytes}
use Rattle.row_forms.specs.Words.{words, digits, number, hex_said}
use Rattle.row_forms.specs.Values.{value_said, can_show, value_shown, is_kind}
use Rattle.row_forms.specs.Rows.{behind_key, field_said, row_said, row_words, spaced}
use Rattle.table_texts.specs.Lines.{lines_of, kept}
use Rattle.load_texts.specs.Headers.{all_fields, header_said}
use Rattle.load_texts.specs.Addresses.{addressed_said}
use Rattle.load_texts.specs.Loaded.{line_said, loaded_said, file_asked, body_said, loaded_shown}
use Rattle.load_texts.specs.Loads.{load_said, load_text}
use Rattle.load_texts.specs.Examples.{load_words, short_words, short_file, named_words, named_bytes, named_load}
use Rattle.load_texts.proofs.laws.loads_in_words.Goals as goal

pub returns-clause-said : goal.returns-clause-said
unfolding written crc_of low_bits crc_bit hex be16_at be32_at be16_bytes be32_bytes words digits number hex_said value_said can_show value_shown is_kind behind_key field_said row_said row_words spaced lines_of kept all_fields header_said addressed_said line_said loaded_said file_asked body_said loaded_shown load_said load_text load_words
returns-clause-said c = refl

pub returns-clause-shown : goal.returns-clause-shown
unfolding written crc_of low_bits crc_bit hex be16_at be32_at be16_bytes be32_bytes words digits number hex_said value_said can_show value_shown is_kind behind_key field_said row_said row_words spaced lines_of kept all_fields header_said addressed_said line_said loaded_said file_asked body_said loaded_shown load_said load_text load_words
returns-clause-shown c = refl

pub returns-clause-short : goal.returns-clause-short
unfolding written crc_of low_bits crc_bit hex be16_at be32_at be16_bytes be32_bytes words digits number hex_said value_said can_show value_shown is_kind behind_key field_said row_said row_words spaced lines_of kept all_fields header_said addressed_said line_said loaded_said file_asked body_said loaded_shown load_said load_text short_words short_file
returns-clause-short c = refl

pub returns-clause-asked : goal.returns-clause-asked
unfolding words behind_key lines_of kept file_asked short_words
returns-clause-asked c = refl

pub returns-clause-named : goal.returns-clause-named
unfolding written crc_of low_bits crc_bit hex be16_at be32_at be16_bytes be32_bytes words digits number hex_said value_said can_show value_shown is_kind behind_key field_said row_said row_words spaced lines_of kept all_fields header_said addressed_said line_said loaded_said file_asked body_said loaded_shown load_said load_text named_words named_bytes named_load
returns-clause-named c = refl
