use Rattle.std.proofs.Common.{◌∷◌, [], refl, arith, true, false}
use Rattle.std.specs.Prelude.{slice_index, codes}
use Rattle.packet_forms.specs.MessageIds.{lc_command}
use Rattle.row_forms.specs.Worked.{field}
use Rattle.row_forms.specs.Rows.{behind_key, row_said, row_size}
use Rattle.row_forms.specs.RowNumbers.{numbers_in}
use Rattle.lc_watch.specs.Messages.{lc_codes}
use Rattle.lc_watch.specs.Instructions.{instruction_of, lc_language}
use Rattle.lc_watch.specs.Decoded.{to_nothing, to_switch}
use Rattle.telecommands.specs.Commands.{named, command_said}
use Rattle.telecommands.specs.Dictionary.{dictionary, hs_rows, mm_rows, md_rows, cs_rows, sc_rows, lc_rows, row, count}
use Rattle.telecommand_decoding.proofs.DecodingLemmas.{decodes}
use Rattle.telecommand_decoding.proofs.lc.lc_words_are_decoded.Goals as goal

pub returns-clause-codes : goal.returns-clause-codes
unfolding dictionary hs_rows mm_rows md_rows cs_rows sc_rows lc_rows lc_codes
returns-clause-codes c = refl

pub returns-clause-request : goal.returns-clause-request
unfolding command_said behind_key named row_said dictionary hs_rows mm_rows md_rows cs_rows sc_rows lc_rows
returns-clause-request c = λ epoch n. refl

pub returns-clause-requests : goal.returns-clause-requests
unfolding dictionary hs_rows mm_rows md_rows cs_rows sc_rows lc_rows
returns-clause-requests c = refl

pub returns-clause-no_op : goal.returns-clause-no_op
unfolding behind_key named dictionary hs_rows mm_rows md_rows cs_rows sc_rows lc_rows row_size numbers_in instruction_of lc_codes
returns-clause-no_op c = decodes lc_language (codes "lc.no_op") 0 (λ ns. to_nothing) (row (codes "lc.no_op") lc_command 0 ([])) 0 record {
  plain = refl;
  found = refl;
  id = refl;
  number = refl;
  version = omega arith;
  kind = refl;
  low = omega arith;
  sized = refl;
  allowed = refl;
  decoded = λ p. refl;
}

pub returns-clause-reset_counts : goal.returns-clause-reset_counts
unfolding behind_key named dictionary hs_rows mm_rows md_rows cs_rows sc_rows lc_rows row_size numbers_in instruction_of lc_codes
returns-clause-reset_counts c = decodes lc_language (codes "lc.reset_counts") 1 (λ ns. to_nothing) (row (codes "lc.reset_counts") lc_command 1 ([])) 0 record {
  plain = refl;
  found = refl;
  id = refl;
  number = refl;
  version = omega arith;
  kind = refl;
  low = omega arith;
  sized = refl;
  allowed = refl;
  decoded = λ p. refl;
}

pub returns-clause-set_active : goal.returns-clause-set_active
unfolding behind_key named dictionary hs_rows mm_rows md_rows cs_rows sc_rows lc_rows row_size numbers_in instruction_of lc_codes
returns-clause-set_active c = decodes lc_language (codes "lc.set_active") 2 (λ ns. to_switch (slice_index ns 0) true) (row (codes "lc.set_active") lc_command 2 (field (codes "point") count ∷ [])) 2 record {
  plain = refl;
  found = refl;
  id = refl;
  number = refl;
  version = omega arith;
  kind = refl;
  low = omega arith;
  sized = refl;
  allowed = refl;
  decoded = λ p. refl;
}

pub returns-clause-set_passive : goal.returns-clause-set_passive
unfolding behind_key named dictionary hs_rows mm_rows md_rows cs_rows sc_rows lc_rows row_size numbers_in instruction_of lc_codes
returns-clause-set_passive c = decodes lc_language (codes "lc.set_passive") 3 (λ ns. to_switch (slice_index ns 0) false) (row (codes "lc.set_passive") lc_command 3 (field (codes "point") count ∷ [])) 2 record {
  plain = refl;
  found = refl;
  id = refl;
  number = refl;
  version = omega arith;
  kind = refl;
  low = omega arith;
  sized = refl;
  allowed = refl;
  decoded = λ p. refl;
}
