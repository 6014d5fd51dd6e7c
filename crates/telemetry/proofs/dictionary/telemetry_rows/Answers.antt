use Rattle.std.proofs.Common.{refl}
use Rattle.row_forms.specs.Numbers.{are_choices}
use Rattle.row_forms.specs.Rows.{behind_key}
use Rattle.row_forms.specs.Values.{is_kind}
use Rattle.telemetry.specs.Telemetry.{begin_with_header, is_good, are_good, are_distinct}
use Rattle.telemetry.specs.Dictionary.{dictionary, hs_rows, mm_rows, md_rows, cs_rows, sc_rows, lc_rows, event_rows}
use Rattle.telemetry.proofs.dictionary.telemetry_rows.Goals as goal

pub returns-clause-good : goal.returns-clause-good
unfolding is_good are_good begin_with_header behind_key is_kind are_choices
returns-clause-good c = refl

pub returns-clause-distinct : goal.returns-clause-distinct
unfolding are_distinct
returns-clause-distinct c = refl

pub returns-clause-listed : goal.returns-clause-listed
unfolding dictionary hs_rows mm_rows md_rows cs_rows sc_rows lc_rows event_rows
returns-clause-listed c = refl
