-- The words of the applications, by the tables in force.
use Rattle.std.specs.Prelude.{◌≡◌, ℕ, List, []}
use Rattle.histories.specs.Entries.Entry.{Woken, Activated}
use Rattle.packet_forms.specs.declared.name.Counter.{Counter}
use Rattle.bus_pipes.specs.declared.names.Out.{Out}
use Rattle.memory_window.specs.Memory.{Memory}
use Rattle.hs_monitors.specs.Histories.{HsEntry, Setup as HsSetup, setup_of, tables_after}
use Rattle.hs_monitors.specs.Step.{hs_items}
use Rattle.hs_monitors.specs.State.{Stands as HsStands}
use Rattle.hs_monitors.specs.declared.state.Hs.{Hs}
use Rattle.cs_slices.specs.Histories.{CsEntry, tables_after as cs_tables_after}
use Rattle.cs_slices.specs.Tables.{TablePair, pair_of}
use Rattle.cs_slices.specs.Step.{cs_items}
use Rattle.cs_slices.specs.State.{Stands as CsStands}
use Rattle.cs_slices.specs.declared.state.Cs.{Cs}
use Rattle.sc_sequences.specs.Histories.{ScEntry, Beginning, begun_at, input_of as sc_input_of, tables_after as sc_tables_after}
use Rattle.sc_sequences.specs.Step.{sc_items}
use Rattle.sc_sequences.specs.State.{Stands as ScStands}
use Rattle.sc_sequences.specs.declared.state.Sc.{Sc}
use Rattle.mm_core.specs.Step.{Input as MmInput, mm_items}
use Rattle.mm_core.specs.State.{Stands as MmStands}
use Rattle.mm_core.specs.declared.state.Mm.{Mm}
use Rattle.md_dwell.specs.Histories.{MdEntry}
use Rattle.md_dwell.specs.Step.{md_items}
use Rattle.md_dwell.specs.State.{Stands as MdStands}
use Rattle.md_dwell.specs.declared.state.Md.{Md}
use Rattle.lc_watch.specs.Histories.{Input as LcInput, Setup as LcSetup, setup_of as lc_setup_of, input_of as lc_input_of}
use Rattle.lc_watch.specs.Step.{lc_items}
use Rattle.lc_watch.specs.State.{Stands as LcStands}
use Rattle.lc_watch.specs.declared.state.Lc.{Lc}
use Rattle.active_tables.specs.Tables.{TableSet}

-- the tables with which the histories began, those that are active at their end, the time at which SC's began, and the resets made and their
-- maximum with which HS's did
pub record Active : Type 0 where
  pub first : TableSet
  pub now : TableSet
  pub began : ℕ
  pub resets : ℕ
  pub limit : ℕ

-- what a history of HS begins with: its tables, the resets made, and how many may be made
abbrev pub hs_setup : Active → HsSetup
hs_setup tables = setup_of tables.first.hs tables.resets tables.limit

-- the tables of CS
abbrev pub cs_tables : TableSet → TablePair
cs_tables tables = pair_of tables.eeprom tables.memory

-- what a history of SC begins with: its time, and the commands of the sequences
abbrev pub sc_begun : Active → Beginning
sc_begun tables = begun_at tables.began tables.first.sc

-- the tables of LC
abbrev pub lc_setup : TableSet → LcSetup
lc_setup tables = lc_setup_of tables.wdt tables.adt

-- when a state stands for a history: of HS, CS and SC, where the tables that are active follow from it
abbrev pub hs_stands : Active → List HsEntry → Hs → Type 0
hs_stands tables history hs = (tables.now.hs ≡ tables_after (hs_setup tables) history) × HsStands (hs_setup tables) history hs

abbrev pub cs_stands : Active → List CsEntry → Cs → Type 0
cs_stands tables history cs = (cs_tables tables.now ≡ cs_tables_after (cs_tables tables.first) history) × CsStands (cs_tables tables.first) history cs

abbrev pub sc_stands : Active → List ScEntry → Sc → Type 0
sc_stands tables history sc = (tables.now.sc ≡ sc_tables_after (sc_begun tables) history) × ScStands (sc_begun tables) history sc

abbrev pub mm_stands : TableSet → List MmInput → Mm → Type 0
mm_stands tables history mm = MmStands history mm

abbrev pub md_stands : Active → List MdEntry → Md → Type 0
md_stands tables history md = MdStands tables.first.dwells history md

abbrev pub lc_stands : LcSetup → List LcInput → Lc → Type 0
lc_stands setup history lc = LcStands setup.watch setup.actions history lc

-- what an entry gives behind a history: a wakeup its items, and an activation none
abbrev pub hs_gives : Active → List HsEntry → HsEntry → List Out
hs_gives tables history (Woken input) = hs_items (hs_setup tables) history input
hs_gives tables history (Activated a) = []

abbrev pub cs_gives : Active → List CsEntry → CsEntry → List Out
cs_gives tables history (Woken input) = cs_items (cs_tables tables.first) history input
cs_gives tables history (Activated a) = []

abbrev pub sc_gives : Active → List ScEntry → ScEntry → List Out
sc_gives tables history (Woken input) = sc_items (sc_begun tables) history input
sc_gives tables history (Activated a) = []

abbrev pub mm_gives : TableSet → List MmInput → MmInput → List Out
mm_gives tables history input = mm_items history input

abbrev pub md_gives : Active → List MdEntry → MdEntry → List Out
md_gives tables history (Woken input) = md_items tables.first.dwells history input
md_gives tables history (Activated a) = []

abbrev pub lc_gives : LcSetup → List LcInput → LcInput → List Out
lc_gives setup history input = lc_items setup history input

-- a wakeup of HS, by its time, the packets of both pipes, and the frame's execution counters
abbrev pub hs_reads : ℕ → List (List ℕ) → List (List ℕ) → List Counter → HsEntry
hs_reads time commands events counters = Woken (record { time = time; commands = commands; seen = record { events = events; counters = counters } })

-- of SC, by its time and the packets of the pipe
abbrev pub sc_reads : ℕ → List (List ℕ) → ScEntry
sc_reads time commands = Woken (sc_input_of time commands)

-- of another application, by its time, the packets of the pipe, and memory; of MM also by the load files
abbrev pub cs_reads : ℕ → List (List ℕ) → Memory → CsEntry
cs_reads time commands memory = Woken (record { time = time; commands = commands; seen = memory })

abbrev pub mm_reads : List (ℕ × List ℕ) → ℕ → List (List ℕ) → Memory → MmInput
mm_reads loads time commands memory = record { time = time; commands = commands; seen = record { image = memory; loads = loads } }

abbrev pub md_reads : ℕ → List (List ℕ) → Memory → MdEntry
md_reads time commands memory = Woken (record { time = time; commands = commands; seen = memory })

-- and of LC by its time and the packets of both pipes
abbrev pub lc_reads : ℕ → List (List ℕ) → List (List ℕ) → LcInput
lc_reads time commands telemetry = lc_input_of time commands telemetry
