use Rattle.std.proofs.Common.{◌≡◌, ◌↔◌, false, None, refl}
use Rattle.hs_tables.specs.Apps as apps
use Rattle.hs_tables.specs.Events as events
use Rattle.hs_tables.specs.Counters as counters
use Rattle.hs_tables.specs.Actions as actions
use Rattle.hs_tables.specs.declared.apps.AppRow.{AppRow}
use Rattle.hs_tables.specs.declared.events.EventRow.{EventRow}
use Rattle.hs_tables.specs.declared.counters.CountRow.{CountRow}
use Rattle.hs_tables.specs.declared.actions.ActRow.{ActRow}
use Rattle.hs_tables.proofs.Unused.{unused, unused_name, where_faultless}
use Rattle.hs_tables.proofs.laws.unused_entries_answer_nothing.Goals as goal

app : (row : AppRow) → apps.row_reason row ≡ None → (apps.entry_of row ≡ None) ↔ (apps.is_used row ≡ false)
unfolding apps.row_reason
app row none = unused (apps.is_used row) row.name _ _ 1 none

event : (row : EventRow) → events.row_reason row ≡ None → (events.entry_of row ≡ None) ↔ (events.is_used row ≡ false)
unfolding events.row_reason
event row none = unused (events.is_used row) row.name _ _ 1 none

count : (row : CountRow) → counters.row_reason row ≡ None → (counters.entry_of row ≡ None) ↔ (counters.is_used row ≡ false)
unfolding counters.row_reason
count row none = unused_name (counters.is_used row) row.name _ 1 none

act : (row : ActRow) → actions.row_reason row ≡ None → (actions.entry_of row ≡ None) ↔ (actions.is_used row ≡ false)
unfolding actions.row_reason
act row none = unused (actions.is_used row) row.packet _ _ 4 none

pub returns-clause-apps : goal.returns-clause-apps
unfolding apps.rows_fault_of apps.row_reason
returns-clause-apps c = λ payload place none. where_faultless (λ row. (apps.entry_of row ≡ None) ↔ (apps.is_used row ≡ false)) apps.row_reason app apps.blank_row refl (apps.rows_of payload) place 1 none

pub returns-clause-events : goal.returns-clause-events
unfolding events.rows_fault_of events.row_reason
returns-clause-events c = λ payload place none. where_faultless (λ row. (events.entry_of row ≡ None) ↔ (events.is_used row ≡ false)) events.row_reason event events.blank_row refl (events.rows_of payload) place 1 none

pub returns-clause-counters : goal.returns-clause-counters
unfolding counters.rows_fault_of counters.row_reason
returns-clause-counters c = λ payload place none. where_faultless (λ row. (counters.entry_of row ≡ None) ↔ (counters.is_used row ≡ false)) counters.row_reason count counters.blank_row refl (counters.rows_of payload) place 1 none

pub returns-clause-actions : goal.returns-clause-actions
unfolding actions.rows_fault_of actions.row_reason
returns-clause-actions c = λ payload place none. where_faultless (λ row. (actions.entry_of row ≡ None) ↔ (actions.is_used row ≡ false)) actions.row_reason act actions.blank_row refl (actions.rows_of payload) place 1 none
