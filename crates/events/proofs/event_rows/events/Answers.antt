use Rattle.std.proofs.Common.{refl}
use Rattle.events.specs.Events.{are_distinct, are_named}
use Rattle.events.specs.Tables.{event_table, hs_events, mm_events, md_events, cs_events, sc_events, lc_events, table_events}
use Rattle.events.proofs.event_rows.events.Goals as goal

pub returns-clause-listed : goal.returns-clause-listed
unfolding event_table hs_events mm_events md_events cs_events sc_events lc_events table_events
returns-clause-listed c = refl

pub returns-clause-distinct : goal.returns-clause-distinct
unfolding are_distinct
returns-clause-distinct c = refl

pub returns-clause-names : goal.returns-clause-names
unfolding are_named
returns-clause-names c = refl
