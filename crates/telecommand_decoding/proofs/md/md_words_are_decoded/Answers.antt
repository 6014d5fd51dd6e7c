use Rattle.std.proofs.Common.{◌∷◌, [], refl, arith}
use Rattle.std.specs.Prelude.{slice_index, codes}
use Rattle.packet_forms.specs.MessageIds.{md_command}
use Rattle.row_forms.specs.Worked.{field}
use Rattle.row_forms.specs.Rows.{behind_key, row_said, row_size}
use Rattle.row_forms.specs.RowNumbers.{numbers_in}
use Rattle.md_dwell.specs.Messages.{md_codes}
use Rattle.md_dwell.specs.Instructions.{instruction_of, md_language}
use Rattle.md_dwell.specs.Decoded.{to_jam, to_nothing, to_start, to_stop}
use Rattle.telecommands.specs.Commands.{named, command_said}
use Rattle.telecommands.specs.Dictionary.{dictionary, hs_rows, mm_rows, md_rows, cs_rows, sc_rows, lc_rows, row, count, address, bits}
use Rattle.telecommand_decoding.proofs.DecodingLemmas.{decodes, be16_behind, be32_behind}
use Rattle.telecommand_decoding.proofs.md.md_words_are_decoded.Goals as goal

pub returns-clause-codes : goal.returns-clause-codes
unfolding dictionary hs_rows mm_rows md_rows cs_rows sc_rows lc_rows md_codes
returns-clause-codes c = refl

pub returns-clause-request : goal.returns-clause-request
unfolding command_said behind_key named row_said dictionary hs_rows mm_rows md_rows cs_rows sc_rows lc_rows
returns-clause-request c = λ epoch n. refl

pub returns-clause-requests : goal.returns-clause-requests
unfolding dictionary hs_rows mm_rows md_rows cs_rows sc_rows lc_rows
returns-clause-requests c = refl

pub returns-clause-no_op : goal.returns-clause-no_op
unfolding behind_key named dictionary hs_rows mm_rows md_rows cs_rows sc_rows lc_rows row_size numbers_in instruction_of md_codes
returns-clause-no_op c = decodes md_language (codes "md.no_op") 0 (λ ns. to_nothing) (row (codes "md.no_op") md_command 0 ([])) 0 record {
  plain = refl;
  found = refl;
  id = refl;
  number = refl;
  version = omega arith;
  kind = refl;
  low = omega arith;
  sized = refl;
  allowed = refl;
  decoded = λ p. refl;
}

pub returns-clause-reset_counts : goal.returns-clause-reset_counts
unfolding behind_key named dictionary hs_rows mm_rows md_rows cs_rows sc_rows lc_rows row_size numbers_in instruction_of md_codes
returns-clause-reset_counts c = decodes md_language (codes "md.reset_counts") 1 (λ ns. to_nothing) (row (codes "md.reset_counts") md_command 1 ([])) 0 record {
  plain = refl;
  found = refl;
  id = refl;
  number = refl;
  version = omega arith;
  kind = refl;
  low = omega arith;
  sized = refl;
  allowed = refl;
  decoded = λ p. refl;
}

pub returns-clause-start : goal.returns-clause-start
unfolding behind_key named dictionary hs_rows mm_rows md_rows cs_rows sc_rows lc_rows row_size numbers_in instruction_of md_codes
returns-clause-start c = decodes md_language (codes "md.start") 2 (λ ns. to_start (slice_index ns 0)) (row (codes "md.start") md_command 2 (field (codes "tables") bits ∷ [])) 2 record {
  plain = refl;
  found = refl;
  id = refl;
  number = refl;
  version = omega arith;
  kind = refl;
  low = omega arith;
  sized = refl;
  allowed = refl;
  decoded = λ p. refl;
}

pub returns-clause-stop : goal.returns-clause-stop
unfolding behind_key named dictionary hs_rows mm_rows md_rows cs_rows sc_rows lc_rows row_size numbers_in instruction_of md_codes
returns-clause-stop c = decodes md_language (codes "md.stop") 3 (λ ns. to_stop (slice_index ns 0)) (row (codes "md.stop") md_command 3 (field (codes "tables") bits ∷ [])) 2 record {
  plain = refl;
  found = refl;
  id = refl;
  number = refl;
  version = omega arith;
  kind = refl;
  low = omega arith;
  sized = refl;
  allowed = refl;
  decoded = λ p. refl;
}

pub returns-clause-jam : goal.returns-clause-jam
unfolding behind_key named dictionary hs_rows mm_rows md_rows cs_rows sc_rows lc_rows row_size numbers_in instruction_of md_codes
returns-clause-jam c = decodes md_language (codes "md.jam") 4 (λ ns. to_jam (slice_index ns 0) (slice_index ns 1) (slice_index ns 2) (slice_index ns 3) (slice_index ns 4)) (row (codes "md.jam") md_command 4 (field (codes "table") count ∷ field (codes "entry") count ∷ field (codes "length") count ∷ field (codes "delay") count ∷ field (codes "address") address ∷ [])) 12 record {
  plain = refl;
  found = refl;
  id = refl;
  number = refl;
  version = omega arith;
  kind = refl;
  low = omega arith;
  sized = refl;
  allowed = refl;
  decoded = λ p. simp (be16_behind, be32_behind);
}
