use Rattle.std.proofs.Common.{refl}
use Rattle.std.specs.Fmt.{digits as written}
use Rattle.events.specs.Events.{event_row, event_said}
use Rattle.events.specs.Refusals.{reason_row, reason_of, refusal_said}
use Rattle.events.specs.Tables.{event_table, hs_events, mm_events, md_events, cs_events, sc_events, lc_events, table_events, refusal_table, mm_refusals, md_refusals, cs_refusals, sc_refusals, lc_refusals}
use Rattle.events.proofs.laws.worked_sentences.Goals as goal

pub returns-clause-accepted : goal.returns-clause-accepted
unfolding event_row event_said event_table hs_events mm_events md_events cs_events sc_events lc_events table_events written
returns-clause-accepted c = refl

pub returns-clause-refused : goal.returns-clause-refused
unfolding event_row event_said event_table hs_events mm_events md_events cs_events sc_events lc_events table_events written
returns-clause-refused c = refl

pub returns-clause-checksum : goal.returns-clause-checksum
unfolding event_row event_said event_table hs_events mm_events md_events cs_events sc_events lc_events table_events written
returns-clause-checksum c = refl

pub returns-clause-acted : goal.returns-clause-acted
unfolding event_row event_said event_table hs_events mm_events md_events cs_events sc_events lc_events table_events written
returns-clause-acted c = refl

pub returns-clause-dwell : goal.returns-clause-dwell
unfolding event_row event_said event_table hs_events mm_events md_events cs_events sc_events lc_events table_events written
returns-clause-dwell c = refl

pub returns-clause-miscompare : goal.returns-clause-miscompare
unfolding event_row event_said event_table hs_events mm_events md_events cs_events sc_events lc_events table_events written
returns-clause-miscompare c = refl

pub returns-clause-ended : goal.returns-clause-ended
unfolding event_row event_said event_table hs_events mm_events md_events cs_events sc_events lc_events table_events written
returns-clause-ended c = refl

pub returns-clause-fired : goal.returns-clause-fired
unfolding event_row event_said event_table hs_events mm_events md_events cs_events sc_events lc_events table_events written
returns-clause-fired c = refl

pub returns-clause-running : goal.returns-clause-running
unfolding event_row event_said event_table hs_events mm_events md_events cs_events sc_events lc_events table_events written
returns-clause-running c = refl

pub returns-clause-other_type : goal.returns-clause-other_type
unfolding event_row event_said event_table hs_events mm_events md_events cs_events sc_events lc_events table_events written
returns-clause-other_type c = refl

pub returns-clause-other_name : goal.returns-clause-other_name
unfolding event_row event_said event_table hs_events mm_events md_events cs_events sc_events lc_events table_events written
returns-clause-other_name c = refl

pub returns-clause-poke : goal.returns-clause-poke
unfolding event_row event_said event_table hs_events mm_events md_events cs_events sc_events lc_events table_events written reason_row reason_of refusal_said refusal_table mm_refusals md_refusals cs_refusals sc_refusals lc_refusals
returns-clause-poke c = refl

pub returns-clause-jam : goal.returns-clause-jam
unfolding event_row event_said event_table hs_events mm_events md_events cs_events sc_events lc_events table_events written reason_row reason_of refusal_said refusal_table mm_refusals md_refusals cs_refusals sc_refusals lc_refusals
returns-clause-jam c = refl

pub returns-clause-length : goal.returns-clause-length
unfolding event_row event_said event_table hs_events mm_events md_events cs_events sc_events lc_events table_events written reason_row reason_of refusal_said refusal_table mm_refusals md_refusals cs_refusals sc_refusals lc_refusals
returns-clause-length c = refl

pub returns-clause-code : goal.returns-clause-code
unfolding event_row event_said event_table hs_events mm_events md_events cs_events sc_events lc_events table_events written reason_row reason_of refusal_said refusal_table mm_refusals md_refusals cs_refusals sc_refusals lc_refusals
returns-clause-code c = refl

pub returns-clause-other_reason : goal.returns-clause-other_reason
unfolding event_row event_said event_table hs_events mm_events md_events cs_events sc_events lc_events table_events written reason_row reason_of refusal_said refusal_table mm_refusals md_refusals cs_refusals sc_refusals lc_refusals
returns-clause-other_reason c = refl
