use Rattle.std.proofs.Common.{refl}
use Rattle.events.specs.Refusals.{are_refusals_distinct}
use Rattle.events.specs.Tables.{refusal_table, mm_refusals, md_refusals, cs_refusals, sc_refusals, lc_refusals}
use Rattle.events.proofs.refusal_rows.refusals.Goals as goal

pub returns-clause-listed : goal.returns-clause-listed
unfolding refusal_table mm_refusals md_refusals cs_refusals sc_refusals lc_refusals
returns-clause-listed c = refl

pub returns-clause-distinct : goal.returns-clause-distinct
unfolding are_refusals_distinct
returns-clause-distinct c = refl
