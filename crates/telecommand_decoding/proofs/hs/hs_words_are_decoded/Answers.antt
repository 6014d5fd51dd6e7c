use Rattle.std.proofs.Common.{◌∷◌, [], refl, arith, true, false}
use Rattle.std.specs.Prelude.{slice_index, codes}
use Rattle.packet_forms.specs.MessageIds.{hs_command}
use Rattle.row_forms.specs.Worked.{field}
use Rattle.row_forms.specs.Rows.{behind_key, row_said, row_size}
use Rattle.row_forms.specs.RowNumbers.{numbers_in}
use Rattle.hs_monitors.specs.Messages.{hs_codes}
use Rattle.hs_monitors.specs.Instructions.{instruction_of, hs_language}
use Rattle.hs_monitors.specs.Decoded.{to_clear, to_limit, to_listen, to_monitor, to_nothing}
use Rattle.telecommands.specs.Commands.{named, command_said}
use Rattle.telecommands.specs.Dictionary.{dictionary, hs_rows, mm_rows, md_rows, cs_rows, sc_rows, lc_rows, row, count}
use Rattle.telecommand_decoding.proofs.DecodingLemmas.{decodes}
use Rattle.telecommand_decoding.proofs.hs.hs_words_are_decoded.Goals as goal

pub returns-clause-codes : goal.returns-clause-codes
unfolding dictionary hs_rows mm_rows md_rows cs_rows sc_rows lc_rows hs_codes
returns-clause-codes c = refl

pub returns-clause-request : goal.returns-clause-request
unfolding command_said behind_key named row_said dictionary hs_rows mm_rows md_rows cs_rows sc_rows lc_rows
returns-clause-request c = λ epoch n. refl

pub returns-clause-requests : goal.returns-clause-requests
unfolding dictionary hs_rows mm_rows md_rows cs_rows sc_rows lc_rows
returns-clause-requests c = refl

pub returns-clause-no_op : goal.returns-clause-no_op
unfolding behind_key named dictionary hs_rows mm_rows md_rows cs_rows sc_rows lc_rows row_size numbers_in instruction_of hs_codes
returns-clause-no_op c = decodes hs_language (codes "hs.no_op") 0 (λ ns. to_nothing) (row (codes "hs.no_op") hs_command 0 ([])) 0 record {
  plain = refl;
  found = refl;
  id = refl;
  number = refl;
  version = omega arith;
  kind = refl;
  low = omega arith;
  sized = refl;
  allowed = refl;
  decoded = λ p. refl;
}

pub returns-clause-reset_counts : goal.returns-clause-reset_counts
unfolding behind_key named dictionary hs_rows mm_rows md_rows cs_rows sc_rows lc_rows row_size numbers_in instruction_of hs_codes
returns-clause-reset_counts c = decodes hs_language (codes "hs.reset_counts") 1 (λ ns. to_nothing) (row (codes "hs.reset_counts") hs_command 1 ([])) 0 record {
  plain = refl;
  found = refl;
  id = refl;
  number = refl;
  version = omega arith;
  kind = refl;
  low = omega arith;
  sized = refl;
  allowed = refl;
  decoded = λ p. refl;
}

pub returns-clause-apps_on : goal.returns-clause-apps_on
unfolding behind_key named dictionary hs_rows mm_rows md_rows cs_rows sc_rows lc_rows row_size numbers_in instruction_of hs_codes
returns-clause-apps_on c = decodes hs_language (codes "hs.apps_on") 2 (λ ns. to_monitor true) (row (codes "hs.apps_on") hs_command 2 ([])) 0 record {
  plain = refl;
  found = refl;
  id = refl;
  number = refl;
  version = omega arith;
  kind = refl;
  low = omega arith;
  sized = refl;
  allowed = refl;
  decoded = λ p. refl;
}

pub returns-clause-apps_off : goal.returns-clause-apps_off
unfolding behind_key named dictionary hs_rows mm_rows md_rows cs_rows sc_rows lc_rows row_size numbers_in instruction_of hs_codes
returns-clause-apps_off c = decodes hs_language (codes "hs.apps_off") 3 (λ ns. to_monitor false) (row (codes "hs.apps_off") hs_command 3 ([])) 0 record {
  plain = refl;
  found = refl;
  id = refl;
  number = refl;
  version = omega arith;
  kind = refl;
  low = omega arith;
  sized = refl;
  allowed = refl;
  decoded = λ p. refl;
}

pub returns-clause-events_on : goal.returns-clause-events_on
unfolding behind_key named dictionary hs_rows mm_rows md_rows cs_rows sc_rows lc_rows row_size numbers_in instruction_of hs_codes
returns-clause-events_on c = decodes hs_language (codes "hs.events_on") 4 (λ ns. to_listen true) (row (codes "hs.events_on") hs_command 4 ([])) 0 record {
  plain = refl;
  found = refl;
  id = refl;
  number = refl;
  version = omega arith;
  kind = refl;
  low = omega arith;
  sized = refl;
  allowed = refl;
  decoded = λ p. refl;
}

pub returns-clause-events_off : goal.returns-clause-events_off
unfolding behind_key named dictionary hs_rows mm_rows md_rows cs_rows sc_rows lc_rows row_size numbers_in instruction_of hs_codes
returns-clause-events_off c = decodes hs_language (codes "hs.events_off") 5 (λ ns. to_listen false) (row (codes "hs.events_off") hs_command 5 ([])) 0 record {
  plain = refl;
  found = refl;
  id = refl;
  number = refl;
  version = omega arith;
  kind = refl;
  low = omega arith;
  sized = refl;
  allowed = refl;
  decoded = λ p. refl;
}

pub returns-clause-clear_resets : goal.returns-clause-clear_resets
unfolding behind_key named dictionary hs_rows mm_rows md_rows cs_rows sc_rows lc_rows row_size numbers_in instruction_of hs_codes
returns-clause-clear_resets c = decodes hs_language (codes "hs.clear_resets") 8 (λ ns. to_clear) (row (codes "hs.clear_resets") hs_command 8 ([])) 0 record {
  plain = refl;
  found = refl;
  id = refl;
  number = refl;
  version = omega arith;
  kind = refl;
  low = omega arith;
  sized = refl;
  allowed = refl;
  decoded = λ p. refl;
}

pub returns-clause-max_resets : goal.returns-clause-max_resets
unfolding behind_key named dictionary hs_rows mm_rows md_rows cs_rows sc_rows lc_rows row_size numbers_in instruction_of hs_codes
returns-clause-max_resets c = decodes hs_language (codes "hs.max_resets") 9 (λ ns. to_limit (slice_index ns 0)) (row (codes "hs.max_resets") hs_command 9 (field (codes "maximum") count ∷ [])) 2 record {
  plain = refl;
  found = refl;
  id = refl;
  number = refl;
  version = omega arith;
  kind = refl;
  low = omega arith;
  sized = refl;
  allowed = refl;
  decoded = λ p. refl;
}
