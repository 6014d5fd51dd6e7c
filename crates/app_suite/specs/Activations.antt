-- Tables that a scenario makes active, and what is told of it.
use Rattle.std.specs.Prelude.{◌≡◌, ℕ, Bool, true, false, if◌then◌else◌, List, [], ◌∷◌, ◌++◌, Option, Some, None, codes}
use Rattle.histories.specs.Entries.{Entry}
use Rattle.histories.specs.Entries.Entry.{Activated}
use Rattle.packet_forms.specs.Names.{name_of}
use Rattle.packet_forms.specs.Built.{event_of}
use Rattle.bus_pipes.specs.declared.names.Out.{Out}
use Rattle.bus_pipes.specs.declared.names.Out.TheVariants.{Made}
use Rattle.table_files.specs.declared.kinds.TableKind.{TableKind}
use Rattle.table_files.specs.declared.kinds.TableKind.TheVariants.{AppMon, EventMon, ExeCount, MsgActs, Ats, Rts, Dwell, Eeprom, Memory, Wdt, Adt}
use Rattle.hs_tables.specs.declared.tables.HsTables.{HsTables}
use Rattle.hs_monitors.specs.Histories.{Activation as HsActivation, HsEntry, Setup as HsSetup}
use Rattle.hs_monitors.specs.State.{Stands as HsStands, activation_of as hs_activation}
use Rattle.hs_monitors.specs.declared.state.Hs.{Hs}
use Rattle.cs_slices.specs.Tables.{TablePair}
use Rattle.cs_slices.specs.Histories.{Activation as CsActivation, CsEntry, activation_of as cs_activation_of}
use Rattle.cs_slices.specs.State.{Stands as CsStands}
use Rattle.cs_slices.specs.declared.state.Cs.{Cs}
use Rattle.sc_tables.specs.Commands.{TimedCommand}
use Rattle.sc_sequences.specs.Histories.{ScEntry}
use Rattle.sc_sequences.specs.State.{activation_of as sc_activation}
use Rattle.md_dwell.specs.Tables.{DwellTable}
use Rattle.md_dwell.specs.Histories.{Activation, MdEntry, activation_of, table_of}
use Rattle.md_dwell.specs.State.{Stands as MdStands}
use Rattle.md_dwell.specs.declared.state.Md.{Md}
use Rattle.app_suite.specs.declared.activations.Naming.{Naming}
use Rattle.app_suite.specs.declared.activations.Naming.TheVariants.{Accepted, Refused, Running}
use Rattle.active_tables.specs.Tables.{TableSet}

-- whether a table of this kind can be made active in a run
abbrev pub can_activate : TableKind → Bool
can_activate AppMon = true
can_activate EventMon = true
can_activate ExeCount = true
can_activate MsgActs = false
can_activate (Ats n) = true
can_activate (Rts n) = true
can_activate (Dwell n) = true
can_activate Eeprom = true
can_activate Memory = true
can_activate Wdt = false
can_activate Adt = false

-- what becomes of a line that names a table of this kind, by whether its sequence runs
abbrev pub naming_of : Bool → TableKind → Naming
naming_of runs kind = if can_activate kind then (if runs then Running else Accepted) else Refused

-- the entry of an activation in a history, where there is one
abbrev pub activated : {W A : Type 0} → Option A → List (Entry W A)
activated None = []
activated (Some a) = Activated a ∷ []

-- what is activated of MD's tables by a table of this kind, which is active now
abbrev pub md_activation : TableKind → List DwellTable → Option Activation
md_activation (Dwell n) dwells = Some (activation_of n (table_of dwells n))
md_activation AppMon dwells = None
md_activation EventMon dwells = None
md_activation ExeCount dwells = None
md_activation MsgActs dwells = None
md_activation (Ats n) dwells = None
md_activation (Rts n) dwells = None
md_activation Eeprom dwells = None
md_activation Memory dwells = None
md_activation Wdt dwells = None
md_activation Adt dwells = None

-- what is activated of CS's tables by a table of this kind, which is active now
abbrev pub cs_activation : TableKind → TableSet → Option CsActivation
cs_activation Eeprom tables = Some (cs_activation_of 1 tables.eeprom)
cs_activation Memory tables = Some (cs_activation_of 2 tables.memory)
cs_activation AppMon tables = None
cs_activation EventMon tables = None
cs_activation ExeCount tables = None
cs_activation MsgActs tables = None
cs_activation (Ats n) tables = None
cs_activation (Rts n) tables = None
cs_activation (Dwell n) tables = None
cs_activation Wdt tables = None
cs_activation Adt tables = None

-- the entries that a table of this kind, which is active now, adds to the histories of HS, CS, SC and MD
abbrev pub hs_activated : TableKind → HsTables → List HsEntry
hs_activated kind tables = activated (hs_activation kind tables)

abbrev pub cs_activated : TableKind → TableSet → List CsEntry
cs_activated kind tables = activated (cs_activation kind tables)

abbrev pub sc_activated : TableKind → List (List TimedCommand) → List ScEntry
sc_activated kind sequences = activated (sc_activation kind sequences)

abbrev pub md_activated : TableKind → List DwellTable → List MdEntry
md_activated kind dwells = activated (md_activation kind dwells)

-- HS, CS and MD took over the table of a kind, which these tables have: from states that stood for histories to ones that stand for them
-- with its activation, and unchanged where the kind is no table of theirs
pub record TakesTable (kind : TableKind) (tables : TableSet) (hs now : Hs) (cs after : Cs) (md later : Md) : Type 0 where
  pub given : (setup : HsSetup) (history : List HsEntry) (a : HsActivation) → hs_activation kind tables.hs ≡ Some a → HsStands setup history hs → HsStands setup (history ++ Activated a ∷ []) now
  pub other : hs_activation kind tables.hs ≡ None → now ≡ hs
  pub segments : (first : TablePair) (history : List CsEntry) → CsStands first history cs → CsStands first (history ++ cs_activated kind tables) after
  pub dwells : (first : List DwellTable) (history : List MdEntry) → MdStands first history md → MdStands first (history ++ md_activated kind tables.dwells) later

-- the name in the events of activations
unfoldable pub tables_name : List ℕ
tables_name = name_of (codes "TBL")

-- the event of a line, by what becomes of it
abbrev pub table_event : ℕ → Naming → Out
table_event time Accepted = Made (event_of tables_name 1 2 time)
table_event time Refused = Made (event_of tables_name 2 3 time)
table_event time Running = Made (event_of tables_name 3 3 time)
