use Rattle.std.proofs.Common.{◌∷◌, [], refl, arith, true, false}
use Rattle.std.specs.Prelude.{slice_index, codes}
use Rattle.packet_forms.specs.MessageIds.{cs_command}
use Rattle.row_forms.specs.Worked.{field}
use Rattle.row_forms.specs.Rows.{behind_key, row_said, row_size}
use Rattle.row_forms.specs.RowNumbers.{numbers_in}
use Rattle.cs_slices.specs.Messages.{cs_codes}
use Rattle.cs_slices.specs.Instructions.{instruction_of, cs_language}
use Rattle.cs_slices.specs.Decoded.{to_entry, to_nothing, to_report, to_table, to_whole}
use Rattle.telecommands.specs.Commands.{named, command_said}
use Rattle.telecommands.specs.Dictionary.{dictionary, hs_rows, mm_rows, md_rows, cs_rows, sc_rows, lc_rows, row, count}
use Rattle.telecommand_decoding.proofs.DecodingLemmas.{decodes, be16_behind}
use Rattle.telecommand_decoding.proofs.cs.cs_words_are_decoded.Goals as goal

pub returns-clause-codes : goal.returns-clause-codes
unfolding dictionary hs_rows mm_rows md_rows cs_rows sc_rows lc_rows cs_codes
returns-clause-codes c = refl

pub returns-clause-request : goal.returns-clause-request
unfolding command_said behind_key named row_said dictionary hs_rows mm_rows md_rows cs_rows sc_rows lc_rows
returns-clause-request c = λ epoch n. refl

pub returns-clause-requests : goal.returns-clause-requests
unfolding dictionary hs_rows mm_rows md_rows cs_rows sc_rows lc_rows
returns-clause-requests c = refl

pub returns-clause-no_op : goal.returns-clause-no_op
unfolding behind_key named dictionary hs_rows mm_rows md_rows cs_rows sc_rows lc_rows row_size numbers_in instruction_of cs_codes
returns-clause-no_op c = decodes cs_language (codes "cs.no_op") 0 (λ ns. to_nothing) (row (codes "cs.no_op") cs_command 0 ([])) 0 record {
  plain = refl;
  found = refl;
  id = refl;
  number = refl;
  version = omega arith;
  kind = refl;
  low = omega arith;
  sized = refl;
  allowed = refl;
  decoded = λ p. refl;
}

pub returns-clause-reset_counts : goal.returns-clause-reset_counts
unfolding behind_key named dictionary hs_rows mm_rows md_rows cs_rows sc_rows lc_rows row_size numbers_in instruction_of cs_codes
returns-clause-reset_counts c = decodes cs_language (codes "cs.reset_counts") 1 (λ ns. to_nothing) (row (codes "cs.reset_counts") cs_command 1 ([])) 0 record {
  plain = refl;
  found = refl;
  id = refl;
  number = refl;
  version = omega arith;
  kind = refl;
  low = omega arith;
  sized = refl;
  allowed = refl;
  decoded = λ p. refl;
}

pub returns-clause-on : goal.returns-clause-on
unfolding behind_key named dictionary hs_rows mm_rows md_rows cs_rows sc_rows lc_rows row_size numbers_in instruction_of cs_codes
returns-clause-on c = decodes cs_language (codes "cs.on") 2 (λ ns. to_whole true) (row (codes "cs.on") cs_command 2 ([])) 0 record {
  plain = refl;
  found = refl;
  id = refl;
  number = refl;
  version = omega arith;
  kind = refl;
  low = omega arith;
  sized = refl;
  allowed = refl;
  decoded = λ p. refl;
}

pub returns-clause-off : goal.returns-clause-off
unfolding behind_key named dictionary hs_rows mm_rows md_rows cs_rows sc_rows lc_rows row_size numbers_in instruction_of cs_codes
returns-clause-off c = decodes cs_language (codes "cs.off") 3 (λ ns. to_whole false) (row (codes "cs.off") cs_command 3 ([])) 0 record {
  plain = refl;
  found = refl;
  id = refl;
  number = refl;
  version = omega arith;
  kind = refl;
  low = omega arith;
  sized = refl;
  allowed = refl;
  decoded = λ p. refl;
}

pub returns-clause-table_on : goal.returns-clause-table_on
unfolding behind_key named dictionary hs_rows mm_rows md_rows cs_rows sc_rows lc_rows row_size numbers_in instruction_of cs_codes
returns-clause-table_on c = decodes cs_language (codes "cs.table_on") 4 (λ ns. to_table (slice_index ns 0) true) (row (codes "cs.table_on") cs_command 4 (field (codes "table") count ∷ [])) 2 record {
  plain = refl;
  found = refl;
  id = refl;
  number = refl;
  version = omega arith;
  kind = refl;
  low = omega arith;
  sized = refl;
  allowed = refl;
  decoded = λ p. refl;
}

pub returns-clause-table_off : goal.returns-clause-table_off
unfolding behind_key named dictionary hs_rows mm_rows md_rows cs_rows sc_rows lc_rows row_size numbers_in instruction_of cs_codes
returns-clause-table_off c = decodes cs_language (codes "cs.table_off") 5 (λ ns. to_table (slice_index ns 0) false) (row (codes "cs.table_off") cs_command 5 (field (codes "table") count ∷ [])) 2 record {
  plain = refl;
  found = refl;
  id = refl;
  number = refl;
  version = omega arith;
  kind = refl;
  low = omega arith;
  sized = refl;
  allowed = refl;
  decoded = λ p. refl;
}

pub returns-clause-entry_on : goal.returns-clause-entry_on
unfolding behind_key named dictionary hs_rows mm_rows md_rows cs_rows sc_rows lc_rows row_size numbers_in instruction_of cs_codes
returns-clause-entry_on c = decodes cs_language (codes "cs.entry_on") 6 (λ ns. to_entry (slice_index ns 0) (slice_index ns 1) true) (row (codes "cs.entry_on") cs_command 6 (field (codes "table") count ∷ field (codes "entry") count ∷ [])) 4 record {
  plain = refl;
  found = refl;
  id = refl;
  number = refl;
  version = omega arith;
  kind = refl;
  low = omega arith;
  sized = refl;
  allowed = refl;
  decoded = λ p. simp be16_behind;
}

pub returns-clause-entry_off : goal.returns-clause-entry_off
unfolding behind_key named dictionary hs_rows mm_rows md_rows cs_rows sc_rows lc_rows row_size numbers_in instruction_of cs_codes
returns-clause-entry_off c = decodes cs_language (codes "cs.entry_off") 7 (λ ns. to_entry (slice_index ns 0) (slice_index ns 1) false) (row (codes "cs.entry_off") cs_command 7 (field (codes "table") count ∷ field (codes "entry") count ∷ [])) 4 record {
  plain = refl;
  found = refl;
  id = refl;
  number = refl;
  version = omega arith;
  kind = refl;
  low = omega arith;
  sized = refl;
  allowed = refl;
  decoded = λ p. simp be16_behind;
}

pub returns-clause-report : goal.returns-clause-report
unfolding behind_key named dictionary hs_rows mm_rows md_rows cs_rows sc_rows lc_rows row_size numbers_in instruction_of cs_codes
returns-clause-report c = decodes cs_language (codes "cs.report") 8 (λ ns. to_report (slice_index ns 0) (slice_index ns 1)) (row (codes "cs.report") cs_command 8 (field (codes "table") count ∷ field (codes "entry") count ∷ [])) 4 record {
  plain = refl;
  found = refl;
  id = refl;
  number = refl;
  version = omega arith;
  kind = refl;
  low = omega arith;
  sized = refl;
  allowed = refl;
  decoded = λ p. simp be16_behind;
}
