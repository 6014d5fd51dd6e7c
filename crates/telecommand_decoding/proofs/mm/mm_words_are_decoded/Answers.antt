use Rattle.std.proofs.Common.{ℕ, ◌∷◌, [], refl, arith, true, false}
use Rattle.std.specs.Prelude.{slice_index, codes}
use Rattle.std.proofs.lemmas.List.{get_or-drop}
use Rattle.packet_forms.specs.MessageIds.{mm_command}
use Rattle.row_forms.specs.Worked.{field}
use Rattle.row_forms.specs.Rows.{behind_key, row_said, row_size}
use Rattle.row_forms.specs.RowNumbers.{numbers_in}
use Rattle.mm_core.specs.Messages.{mm_codes}
use Rattle.mm_core.specs.Instructions.{instruction_of, mm_language}
use Rattle.mm_core.specs.Decoded.{to_dump, to_fill, to_load_file, to_nothing, to_peek, to_poke, to_protect}
use Rattle.telecommands.specs.Commands.{named, command_said}
use Rattle.telecommands.specs.Dictionary.{dictionary, hs_rows, mm_rows, md_rows, cs_rows, sc_rows, lc_rows, row, byte, count, length_of, filled, address}
use Rattle.telecommand_decoding.proofs.DecodingLemmas.{decodes, be32_behind}
use Rattle.telecommand_decoding.proofs.LoadLemmas.{load_decoded}
use Rattle.telecommand_decoding.proofs.mm.mm_words_are_decoded.Goals as goal

pub returns-clause-codes : goal.returns-clause-codes
unfolding dictionary hs_rows mm_rows md_rows cs_rows sc_rows lc_rows mm_codes
returns-clause-codes c = refl

pub returns-clause-request : goal.returns-clause-request
unfolding command_said behind_key named row_said dictionary hs_rows mm_rows md_rows cs_rows sc_rows lc_rows
returns-clause-request c = λ epoch n. refl

pub returns-clause-requests : goal.returns-clause-requests
unfolding dictionary hs_rows mm_rows md_rows cs_rows sc_rows lc_rows
returns-clause-requests c = refl

pub returns-clause-no_op : goal.returns-clause-no_op
unfolding behind_key named dictionary hs_rows mm_rows md_rows cs_rows sc_rows lc_rows row_size numbers_in instruction_of mm_codes
returns-clause-no_op c = decodes mm_language (codes "mm.no_op") 0 (λ ns. to_nothing) (row (codes "mm.no_op") mm_command 0 ([])) 0 record {
  plain = refl;
  found = refl;
  id = refl;
  number = refl;
  version = omega arith;
  kind = refl;
  low = omega arith;
  sized = refl;
  allowed = refl;
  decoded = λ p. refl;
}

pub returns-clause-reset_counts : goal.returns-clause-reset_counts
unfolding behind_key named dictionary hs_rows mm_rows md_rows cs_rows sc_rows lc_rows row_size numbers_in instruction_of mm_codes
returns-clause-reset_counts c = decodes mm_language (codes "mm.reset_counts") 1 (λ ns. to_nothing) (row (codes "mm.reset_counts") mm_command 1 ([])) 0 record {
  plain = refl;
  found = refl;
  id = refl;
  number = refl;
  version = omega arith;
  kind = refl;
  low = omega arith;
  sized = refl;
  allowed = refl;
  decoded = λ p. refl;
}

pub returns-clause-peek : goal.returns-clause-peek
unfolding behind_key named dictionary hs_rows mm_rows md_rows cs_rows sc_rows lc_rows row_size numbers_in instruction_of mm_codes
returns-clause-peek c = decodes mm_language (codes "mm.peek") 2 (λ ns. to_peek (slice_index ns 0) (slice_index ns 1)) (row (codes "mm.peek") mm_command 2 (field (codes "width") byte ∷ field (codes "address") address ∷ [])) 5 record {
  plain = refl;
  found = refl;
  id = refl;
  number = refl;
  version = omega arith;
  kind = refl;
  low = omega arith;
  sized = refl;
  allowed = refl;
  decoded = λ p. simp be32_behind;
}

pub returns-clause-poke : goal.returns-clause-poke
unfolding behind_key named dictionary hs_rows mm_rows md_rows cs_rows sc_rows lc_rows row_size numbers_in instruction_of mm_codes
returns-clause-poke c = decodes mm_language (codes "mm.poke") 3 (λ ns. to_poke (slice_index ns 0) (slice_index ns 1) (slice_index ns 2)) (row (codes "mm.poke") mm_command 3 (field (codes "width") byte ∷ field (codes "address") address ∷ field (codes "value") address ∷ [])) 9 record {
  plain = refl;
  found = refl;
  id = refl;
  number = refl;
  version = omega arith;
  kind = refl;
  low = omega arith;
  sized = refl;
  allowed = refl;
  decoded = λ p. simp be32_behind;
}

pub returns-clause-load_file : goal.returns-clause-load_file
unfolding behind_key named dictionary hs_rows mm_rows md_rows cs_rows sc_rows lc_rows row_size numbers_in instruction_of mm_codes
returns-clause-load_file c = decodes mm_language (codes "mm.load_file") 5 (λ ns. to_load_file (slice_index ns 0)) (row (codes "mm.load_file") mm_command 5 (field (codes "load") count ∷ [])) 2 record {
  plain = refl;
  found = refl;
  id = refl;
  number = refl;
  version = omega arith;
  kind = refl;
  low = omega arith;
  sized = refl;
  allowed = refl;
  decoded = λ p. refl;
}

pub returns-clause-fill : goal.returns-clause-fill
unfolding behind_key named dictionary hs_rows mm_rows md_rows cs_rows sc_rows lc_rows row_size numbers_in instruction_of mm_codes
returns-clause-fill c = decodes mm_language (codes "mm.fill") 8 (λ ns. to_fill (slice_index ns 0) (slice_index ns 1) (slice_index ns 2)) (row (codes "mm.fill") mm_command 8 (field (codes "address") address ∷ field (codes "length") length_of ∷ field (codes "byte") filled ∷ [])) 9 record {
  plain = refl;
  found = refl;
  id = refl;
  number = refl;
  version = omega arith;
  kind = refl;
  low = omega arith;
  sized = refl;
  allowed = refl;
  decoded = λ p. simp (be32_behind, get_or-drop {A = ℕ});
}

pub returns-clause-eeprom_enable : goal.returns-clause-eeprom_enable
unfolding behind_key named dictionary hs_rows mm_rows md_rows cs_rows sc_rows lc_rows row_size numbers_in instruction_of mm_codes
returns-clause-eeprom_enable c = decodes mm_language (codes "mm.eeprom_enable") 11 (λ ns. to_protect (slice_index ns 0) false) (row (codes "mm.eeprom_enable") mm_command 11 (field (codes "region") byte ∷ [])) 1 record {
  plain = refl;
  found = refl;
  id = refl;
  number = refl;
  version = omega arith;
  kind = refl;
  low = omega arith;
  sized = refl;
  allowed = refl;
  decoded = λ p. refl;
}

pub returns-clause-eeprom_disable : goal.returns-clause-eeprom_disable
unfolding behind_key named dictionary hs_rows mm_rows md_rows cs_rows sc_rows lc_rows row_size numbers_in instruction_of mm_codes
returns-clause-eeprom_disable c = decodes mm_language (codes "mm.eeprom_disable") 12 (λ ns. to_protect (slice_index ns 0) true) (row (codes "mm.eeprom_disable") mm_command 12 (field (codes "region") byte ∷ [])) 1 record {
  plain = refl;
  found = refl;
  id = refl;
  number = refl;
  version = omega arith;
  kind = refl;
  low = omega arith;
  sized = refl;
  allowed = refl;
  decoded = λ p. refl;
}

pub returns-clause-dump : goal.returns-clause-dump
unfolding behind_key named dictionary hs_rows mm_rows md_rows cs_rows sc_rows lc_rows row_size numbers_in instruction_of mm_codes
returns-clause-dump c = decodes mm_language (codes "mm.dump") 13 (λ ns. to_dump (slice_index ns 0) (slice_index ns 1)) (row (codes "mm.dump") mm_command 13 (field (codes "address") address ∷ field (codes "length") length_of ∷ [])) 8 record {
  plain = refl;
  found = refl;
  id = refl;
  number = refl;
  version = omega arith;
  kind = refl;
  low = omega arith;
  sized = refl;
  allowed = refl;
  decoded = λ p. simp be32_behind;
}

pub returns-clause-load : goal.returns-clause-load
returns-clause-load c = load_decoded
