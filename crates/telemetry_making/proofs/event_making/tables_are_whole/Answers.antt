use Rattle.std.proofs.Common.{refl}
use Rattle.events.specs.Tables.{event_table, hs_events, mm_events, md_events, cs_events, sc_events, lc_events, table_events}
use Rattle.hs_monitors.specs.Messages.{hs_codes}
use Rattle.mm_core.specs.Messages.{mm_codes}
use Rattle.md_dwell.specs.Messages.{md_codes}
use Rattle.cs_slices.specs.Messages.{cs_codes}
use Rattle.sc_sequences.specs.Messages.{sc_codes}
use Rattle.lc_watch.specs.Messages.{lc_codes}
use Rattle.telemetry_making.proofs.event_making.tables_are_whole.Goals as goal

pub returns-clause-hs_done : goal.returns-clause-hs_done
unfolding event_table hs_events mm_events md_events cs_events sc_events lc_events table_events hs_codes mm_codes md_codes cs_codes sc_codes lc_codes
returns-clause-hs_done c = refl

pub returns-clause-hs_wrong : goal.returns-clause-hs_wrong
unfolding event_table hs_events mm_events md_events cs_events sc_events lc_events table_events hs_codes mm_codes md_codes cs_codes sc_codes lc_codes
returns-clause-hs_wrong c = refl

pub returns-clause-mm_done : goal.returns-clause-mm_done
unfolding event_table hs_events mm_events md_events cs_events sc_events lc_events table_events hs_codes mm_codes md_codes cs_codes sc_codes lc_codes
returns-clause-mm_done c = refl

pub returns-clause-mm_wrong : goal.returns-clause-mm_wrong
unfolding event_table hs_events mm_events md_events cs_events sc_events lc_events table_events hs_codes mm_codes md_codes cs_codes sc_codes lc_codes
returns-clause-mm_wrong c = refl

pub returns-clause-md_done : goal.returns-clause-md_done
unfolding event_table hs_events mm_events md_events cs_events sc_events lc_events table_events hs_codes mm_codes md_codes cs_codes sc_codes lc_codes
returns-clause-md_done c = refl

pub returns-clause-md_wrong : goal.returns-clause-md_wrong
unfolding event_table hs_events mm_events md_events cs_events sc_events lc_events table_events hs_codes mm_codes md_codes cs_codes sc_codes lc_codes
returns-clause-md_wrong c = refl

pub returns-clause-cs_done : goal.returns-clause-cs_done
unfolding event_table hs_events mm_events md_events cs_events sc_events lc_events table_events hs_codes mm_codes md_codes cs_codes sc_codes lc_codes
returns-clause-cs_done c = refl

pub returns-clause-cs_wrong : goal.returns-clause-cs_wrong
unfolding event_table hs_events mm_events md_events cs_events sc_events lc_events table_events hs_codes mm_codes md_codes cs_codes sc_codes lc_codes
returns-clause-cs_wrong c = refl

pub returns-clause-sc_done : goal.returns-clause-sc_done
unfolding event_table hs_events mm_events md_events cs_events sc_events lc_events table_events hs_codes mm_codes md_codes cs_codes sc_codes lc_codes
returns-clause-sc_done c = refl

pub returns-clause-sc_wrong : goal.returns-clause-sc_wrong
unfolding event_table hs_events mm_events md_events cs_events sc_events lc_events table_events hs_codes mm_codes md_codes cs_codes sc_codes lc_codes
returns-clause-sc_wrong c = refl

pub returns-clause-lc_done : goal.returns-clause-lc_done
unfolding event_table hs_events mm_events md_events cs_events sc_events lc_events table_events hs_codes mm_codes md_codes cs_codes sc_codes lc_codes
returns-clause-lc_done c = refl

pub returns-clause-lc_wrong : goal.returns-clause-lc_wrong
unfolding event_table hs_events mm_events md_events cs_events sc_events lc_events table_events hs_codes mm_codes md_codes cs_codes sc_codes lc_codes
returns-clause-lc_wrong c = refl

pub returns-clause-tables_done : goal.returns-clause-tables_done
unfolding event_table hs_events mm_events md_events cs_events sc_events lc_events table_events
returns-clause-tables_done c = refl

pub returns-clause-tables_wrong : goal.returns-clause-tables_wrong
unfolding event_table hs_events mm_events md_events cs_events sc_events lc_events table_events
returns-clause-tables_wrong c = refl
