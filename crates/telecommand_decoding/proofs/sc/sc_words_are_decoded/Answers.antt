use Rattle.std.proofs.Common.{◌∷◌, [], refl, arith}
use Rattle.std.specs.Prelude.{slice_index, codes}
use Rattle.packet_forms.specs.MessageIds.{sc_command}
use Rattle.row_forms.specs.Worked.{field}
use Rattle.row_forms.specs.Rows.{behind_key, row_said, row_size}
use Rattle.row_forms.specs.RowNumbers.{numbers_in}
use Rattle.sc_sequences.specs.Messages.{sc_codes}
use Rattle.sc_sequences.specs.Instructions.{instruction_of, sc_language}
use Rattle.sc_sequences.specs.Decoded.{to_disable_rts, to_enable_rts, to_jump_ats, to_nothing, to_start_ats, to_start_rts, to_stop_ats, to_stop_rts, to_switch_ats}
use Rattle.telecommands.specs.Commands.{named, command_said}
use Rattle.telecommands.specs.Dictionary.{dictionary, hs_rows, mm_rows, md_rows, cs_rows, sc_rows, lc_rows, row, count, seconds}
use Rattle.telecommand_decoding.proofs.DecodingLemmas.{decodes}
use Rattle.telecommand_decoding.proofs.sc.sc_words_are_decoded.Goals as goal

pub returns-clause-codes : goal.returns-clause-codes
unfolding dictionary hs_rows mm_rows md_rows cs_rows sc_rows lc_rows sc_codes
returns-clause-codes c = refl

pub returns-clause-request : goal.returns-clause-request
unfolding command_said behind_key named row_said dictionary hs_rows mm_rows md_rows cs_rows sc_rows lc_rows
returns-clause-request c = λ epoch n. refl

pub returns-clause-requests : goal.returns-clause-requests
unfolding dictionary hs_rows mm_rows md_rows cs_rows sc_rows lc_rows
returns-clause-requests c = refl

pub returns-clause-no_op : goal.returns-clause-no_op
unfolding behind_key named dictionary hs_rows mm_rows md_rows cs_rows sc_rows lc_rows row_size numbers_in instruction_of sc_codes
returns-clause-no_op c = decodes sc_language (codes "sc.no_op") 0 (λ ns. to_nothing) (row (codes "sc.no_op") sc_command 0 ([])) 0 record {
  plain = refl;
  found = refl;
  id = refl;
  number = refl;
  version = omega arith;
  kind = refl;
  low = omega arith;
  sized = refl;
  allowed = refl;
  decoded = λ p. refl;
}

pub returns-clause-reset_counts : goal.returns-clause-reset_counts
unfolding behind_key named dictionary hs_rows mm_rows md_rows cs_rows sc_rows lc_rows row_size numbers_in instruction_of sc_codes
returns-clause-reset_counts c = decodes sc_language (codes "sc.reset_counts") 1 (λ ns. to_nothing) (row (codes "sc.reset_counts") sc_command 1 ([])) 0 record {
  plain = refl;
  found = refl;
  id = refl;
  number = refl;
  version = omega arith;
  kind = refl;
  low = omega arith;
  sized = refl;
  allowed = refl;
  decoded = λ p. refl;
}

pub returns-clause-start_ats : goal.returns-clause-start_ats
unfolding behind_key named dictionary hs_rows mm_rows md_rows cs_rows sc_rows lc_rows row_size numbers_in instruction_of sc_codes
returns-clause-start_ats c = decodes sc_language (codes "sc.start_ats") 2 (λ ns. to_start_ats (slice_index ns 0)) (row (codes "sc.start_ats") sc_command 2 (field (codes "number") count ∷ [])) 2 record {
  plain = refl;
  found = refl;
  id = refl;
  number = refl;
  version = omega arith;
  kind = refl;
  low = omega arith;
  sized = refl;
  allowed = refl;
  decoded = λ p. refl;
}

pub returns-clause-stop_ats : goal.returns-clause-stop_ats
unfolding behind_key named dictionary hs_rows mm_rows md_rows cs_rows sc_rows lc_rows row_size numbers_in instruction_of sc_codes
returns-clause-stop_ats c = decodes sc_language (codes "sc.stop_ats") 3 (λ ns. to_stop_ats) (row (codes "sc.stop_ats") sc_command 3 ([])) 0 record {
  plain = refl;
  found = refl;
  id = refl;
  number = refl;
  version = omega arith;
  kind = refl;
  low = omega arith;
  sized = refl;
  allowed = refl;
  decoded = λ p. refl;
}

pub returns-clause-start_rts : goal.returns-clause-start_rts
unfolding behind_key named dictionary hs_rows mm_rows md_rows cs_rows sc_rows lc_rows row_size numbers_in instruction_of sc_codes
returns-clause-start_rts c = decodes sc_language (codes "sc.start_rts") 4 (λ ns. to_start_rts (slice_index ns 0)) (row (codes "sc.start_rts") sc_command 4 (field (codes "number") count ∷ [])) 2 record {
  plain = refl;
  found = refl;
  id = refl;
  number = refl;
  version = omega arith;
  kind = refl;
  low = omega arith;
  sized = refl;
  allowed = refl;
  decoded = λ p. refl;
}

pub returns-clause-stop_rts : goal.returns-clause-stop_rts
unfolding behind_key named dictionary hs_rows mm_rows md_rows cs_rows sc_rows lc_rows row_size numbers_in instruction_of sc_codes
returns-clause-stop_rts c = decodes sc_language (codes "sc.stop_rts") 5 (λ ns. to_stop_rts (slice_index ns 0)) (row (codes "sc.stop_rts") sc_command 5 (field (codes "number") count ∷ [])) 2 record {
  plain = refl;
  found = refl;
  id = refl;
  number = refl;
  version = omega arith;
  kind = refl;
  low = omega arith;
  sized = refl;
  allowed = refl;
  decoded = λ p. refl;
}

pub returns-clause-disable_rts : goal.returns-clause-disable_rts
unfolding behind_key named dictionary hs_rows mm_rows md_rows cs_rows sc_rows lc_rows row_size numbers_in instruction_of sc_codes
returns-clause-disable_rts c = decodes sc_language (codes "sc.disable_rts") 6 (λ ns. to_disable_rts (slice_index ns 0)) (row (codes "sc.disable_rts") sc_command 6 (field (codes "number") count ∷ [])) 2 record {
  plain = refl;
  found = refl;
  id = refl;
  number = refl;
  version = omega arith;
  kind = refl;
  low = omega arith;
  sized = refl;
  allowed = refl;
  decoded = λ p. refl;
}

pub returns-clause-enable_rts : goal.returns-clause-enable_rts
unfolding behind_key named dictionary hs_rows mm_rows md_rows cs_rows sc_rows lc_rows row_size numbers_in instruction_of sc_codes
returns-clause-enable_rts c = decodes sc_language (codes "sc.enable_rts") 7 (λ ns. to_enable_rts (slice_index ns 0)) (row (codes "sc.enable_rts") sc_command 7 (field (codes "number") count ∷ [])) 2 record {
  plain = refl;
  found = refl;
  id = refl;
  number = refl;
  version = omega arith;
  kind = refl;
  low = omega arith;
  sized = refl;
  allowed = refl;
  decoded = λ p. refl;
}

pub returns-clause-switch_ats : goal.returns-clause-switch_ats
unfolding behind_key named dictionary hs_rows mm_rows md_rows cs_rows sc_rows lc_rows row_size numbers_in instruction_of sc_codes
returns-clause-switch_ats c = decodes sc_language (codes "sc.switch_ats") 8 (λ ns. to_switch_ats) (row (codes "sc.switch_ats") sc_command 8 ([])) 0 record {
  plain = refl;
  found = refl;
  id = refl;
  number = refl;
  version = omega arith;
  kind = refl;
  low = omega arith;
  sized = refl;
  allowed = refl;
  decoded = λ p. refl;
}

pub returns-clause-jump_ats : goal.returns-clause-jump_ats
unfolding behind_key named dictionary hs_rows mm_rows md_rows cs_rows sc_rows lc_rows row_size numbers_in instruction_of sc_codes
returns-clause-jump_ats c = decodes sc_language (codes "sc.jump_ats") 9 (λ ns. to_jump_ats (slice_index ns 0)) (row (codes "sc.jump_ats") sc_command 9 (field (codes "time") seconds ∷ [])) 4 record {
  plain = refl;
  found = refl;
  id = refl;
  number = refl;
  version = omega arith;
  kind = refl;
  low = omega arith;
  sized = refl;
  allowed = refl;
  decoded = λ p. refl;
}
