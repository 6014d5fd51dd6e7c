use Rattle.std.proofs.Common.{ℕ, true, false, List, [], ◌∷◌, Some, None, refl}
use Rattle.std.specs.Prelude.{◌==◌, codes}
use Rattle.events.specs.Events.{event_row}
use Rattle.events.specs.Tables.{event_table, hs_events, mm_events, md_events, cs_events, sc_events, lc_events, table_events}
use Rattle.hs_tables.specs.Actions.{entry_of}
use Rattle.hs_actions.specs.Messages.{hs_name}
use Rattle.hs_actions.specs.Answers.{event_out}
use Rattle.hs_actions.specs.Outcomes.{act_at}
use Rattle.hs_actions.specs.declared.action.Action.TheVariants.{Reset, Restart, Report, Message}
use Rattle.hs_actions.specs.declared.action.Source.TheVariants.{AppMonitor, EventMonitor}
use Rattle.cs_slices.specs.Messages.{cs_name}
use Rattle.cs_slices.specs.Passes.{differs_behind}
use Rattle.sc_tables.specs.Commands.{TimedCommand}
use Rattle.sc_sequences.specs.Messages.{sc_name}
use Rattle.sc_sequences.specs.Sequences.{is_relative}
use Rattle.sc_sequences.specs.Answers.{ending_items, head_items}
use Rattle.lc_watch.specs.Messages.{lc_name}
use Rattle.app_suite.specs.Activations.{tables_name}
use Rattle.app_suite.specs.declared.activations.Naming.TheVariants.{Accepted, Refused, Running}
use Rattle.telemetry_making.specs.Told.{AreToldItems}
use Rattle.telemetry_making.proofs.AnswerLemmas.{either}
use Rattle.telemetry_making.proofs.event_making.own_events_are_told.Goals as goal

pub returns-clause-monitors : goal.returns-clause-monitors
unfolding event_row event_table hs_events mm_events md_events cs_events sc_events lc_events table_events event_out hs_name
returns-clause-monitors c time AppMonitor = ((101, 3, refl, refl), ((102, 3, refl, refl), ((103, 3, refl, refl), ((104, 3, refl, refl), ((105, 3, refl, refl), tt)))))
returns-clause-monitors c time EventMonitor = ((111, 3, refl, refl), ((112, 3, refl, refl), ((113, 3, refl, refl), ((114, 3, refl, refl), ((115, 3, refl, refl), tt)))))

pub returns-clause-reports : goal.returns-clause-reports
unfolding event_row event_table hs_events mm_events md_events cs_events sc_events lc_events table_events event_out hs_name
returns-clause-reports c time AppMonitor name = ((103, 3, refl, refl), tt)
returns-clause-reports c time EventMonitor name = ((113, 3, refl, refl), (tt, tt))

pub returns-clause-messages : goal.returns-clause-messages
unfolding event_row event_table hs_events mm_events md_events cs_events sc_events lc_events table_events event_out hs_name
returns-clause-messages c time source None = tt
returns-clause-messages c time AppMonitor (Some entry) = (tt, either (entry.state == 2) (λ e. rw e tt) (λ e. rw e ((104, 3, refl, refl), tt)))
returns-clause-messages c time EventMonitor (Some entry) = (tt, either (entry.state == 2) (λ e. rw e tt) (λ e. rw e ((114, 3, refl, refl), tt)))

pub returns-clause-acted : goal.returns-clause-acted
unfolding event_row event_table hs_events mm_events md_events cs_events sc_events lc_events table_events event_out hs_name
returns-clause-acted c time acts AppMonitor name Reset true = ((101, 3, refl, refl), (tt, tt))
returns-clause-acted c time acts EventMonitor name Reset true = ((111, 3, refl, refl), (tt, tt))
returns-clause-acted c time acts AppMonitor name Reset false = ((105, 3, refl, refl), tt)
returns-clause-acted c time acts EventMonitor name Reset false = ((115, 3, refl, refl), tt)
returns-clause-acted c time acts AppMonitor name Restart went = ((102, 3, refl, refl), (tt, tt))
returns-clause-acted c time acts EventMonitor name Restart went = ((112, 3, refl, refl), (tt, tt))
returns-clause-acted c time acts source name Report went = returns-clause-reports c time source name
returns-clause-acted c time acts source name (Message place) true = returns-clause-messages c time source (entry_of (act_at acts place))
returns-clause-acted c time acts source name (Message place) false = tt

pub returns-clause-miscompares : goal.returns-clause-miscompares
unfolding event_row event_table hs_events mm_events md_events cs_events sc_events lc_events table_events cs_name
returns-clause-miscompares c time happened None = tt
returns-clause-miscompares c time happened (Some s) = either (differs_behind happened s) (λ e. rw e ((101, 3, refl, refl), tt)) (λ e. rw e tt)

ending_told : (place time : ℕ) (left : List TimedCommand) → AreToldItems (codes "SC") time (ending_items place time left)
unfolding event_row event_table hs_events mm_events md_events cs_events sc_events lc_events table_events sc_name
ending_told place time [] = either (is_relative place) (λ e. rw e ((104, 2, refl, refl), tt)) (λ e. rw e ((103, 2, refl, refl), tt))
ending_told place time (d ∷ left) = tt

pub returns-clause-heads : goal.returns-clause-heads
unfolding event_row event_table hs_events mm_events md_events cs_events sc_events lc_events table_events sc_name head_items
returns-clause-heads c place time true packet left = (tt, ending_told place time left)
returns-clause-heads c place time false packet left =
    either (is_relative place) (λ e. rw e ((102, 3, refl, refl), tt)) (λ e. rw e ((101, 3, refl, refl), ending_told place time left))

pub returns-clause-firings : goal.returns-clause-firings
unfolding event_row event_table hs_events mm_events md_events cs_events sc_events lc_events table_events lc_name
returns-clause-firings c time row = (tt, ((101, 3, refl, refl), tt))

pub returns-clause-namings : goal.returns-clause-namings
unfolding event_row event_table hs_events mm_events md_events cs_events sc_events lc_events table_events tables_name
returns-clause-namings c time Accepted = (1, 2, refl, refl)
returns-clause-namings c time Refused = (2, 3, refl, refl)
returns-clause-namings c time Running = (3, 3, refl, refl)
