use Rattle.hs_tables.specs.Apps.{is_used as is_app, row_reason as app_reason}
use Rattle.hs_tables.specs.Events.{is_used as is_event, row_reason as event_reason}
use Rattle.hs_tables.specs.Counters.{is_used as is_count, row_reason as count_reason}
use Rattle.hs_tables.specs.Actions.{is_used as is_act, row_reason as act_reason}
use Rattle.hs_tables.proofs.Wholes.{whole, whole_name}
use Rattle.hs_tables.proofs.laws.used_entries_are_whole.Goals as goal

pub returns-clause-apps : goal.returns-clause-apps
unfolding app_reason
returns-clause-apps c = λ row none used. whole (is_app row) row.name _ _ 1 none used

pub returns-clause-events : goal.returns-clause-events
unfolding event_reason
returns-clause-events c = λ row none used. whole (is_event row) row.name _ _ 1 none used

pub returns-clause-counters : goal.returns-clause-counters
unfolding count_reason
returns-clause-counters c = λ row none used. whole_name (is_count row) row.name _ 1 none used

pub returns-clause-actions : goal.returns-clause-actions
unfolding act_reason
returns-clause-actions c = λ row none used. whole (is_act row) row.packet _ _ 4 none used
