-- What a history of Health and Safety has: what it begins with, and its entries, the oldest first.
use Rattle.std.specs.Prelude.{ℕ, List, [], Option, Some, None}
use Rattle.histories.specs.Entries.{Entry, in_force}
use Rattle.histories.specs.Entries.Entry.{Woken, Activated}
use Rattle.commands.specs.Inputs.{Input as CommandInput}
use Rattle.packet_forms.specs.declared.name.Counter.{Counter}
use Rattle.hs_tables.specs.declared.apps.AppRow.{AppRow}
use Rattle.hs_tables.specs.declared.events.EventRow.{EventRow}
use Rattle.hs_tables.specs.declared.counters.CountRow.{CountRow}
use Rattle.hs_tables.specs.declared.tables.HsTables.{HsTables}
use Rattle.hs_monitors.specs.declared.input.HsInput.{HsInput}

-- What is seen in a wakeup beside the commands: the packets of the event pipe, and the execution counters of the frame.
pub record Sight : Type 0 where
  pub events : List (List ℕ)
  pub counters : List Counter

abbrev pub Input : Type 0
Input = CommandInput Sight

-- The input of a wakeup at this time.
abbrev pub input_of : ℕ → HsInput → Input
input_of now input = record { time = now; commands = input.commands.now; seen = record { events = input.events.now; counters = input.counters.now } }

-- A table that becomes active, with all that it holds.
pub data Activation : Type 0 where
  Apps : List AppRow → Activation
  Events : List EventRow → Activation
  Counts : List CountRow → Activation

-- An entry of a history is a wakeup with what is read in it, or an activation.
abbrev pub HsEntry : Type 0
HsEntry = Entry Input Activation

-- What a history begins with: the tables, and the resets made and their maximum.
pub record Setup : Type 0 where
  pub tables : HsTables
  pub made : ℕ
  pub max : ℕ

abbrev pub setup_of : HsTables → ℕ → ℕ → Setup
setup_of tables made max = record { tables = tables; made = made; max = max }

-- The table of each kind that an activation has.
abbrev pub apps_in : Activation → Option (List AppRow)
apps_in (Apps rows) = Some rows
apps_in (Events rows) = None
apps_in (Counts rows) = None

abbrev pub events_in : Activation → Option (List EventRow)
events_in (Apps rows) = None
events_in (Events rows) = Some rows
events_in (Counts rows) = None

abbrev pub counts_in : Activation → Option (List CountRow)
counts_in (Apps rows) = None
counts_in (Events rows) = None
counts_in (Counts rows) = Some rows

-- The application monitors in force behind these entries: those of the last activation of the kind, or of the beginning.
abbrev pub apps_after : Setup → List HsEntry → List AppRow
apps_after setup entries = in_force apps_in setup.tables.apps entries

-- The event monitors in force behind them.
abbrev pub events_after : Setup → List HsEntry → List EventRow
events_after setup entries = in_force events_in setup.tables.events entries

-- All tables in force behind these entries. Message actions are never activated.
abbrev pub tables_after : Setup → List HsEntry → HsTables
tables_after setup entries = record {
  apps = apps_after setup entries;
  events = events_after setup entries;
  counts = in_force counts_in setup.tables.counts entries;
  acts = setup.tables.acts;
}

-- The packets of the command pipe that are read in an entry.
abbrev pub packets_in : HsEntry → List (List ℕ)
packets_in (Woken input) = input.commands
packets_in (Activated a) = []
