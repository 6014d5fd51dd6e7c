-- The tables that files name, and what is refused of their entries.
use Rattle.std.specs.Prelude.{◌≡◌, ℕ, ◌+◌, ◌-◌, Bool, true, false, List, [], ◌∷◌, map, replicate, slice_set, Option, Some, None, option_map, Result, Ok, Err}
use Rattle.std.specs.List.{list_any}
use Rattle.memory_window.specs.declared.regions.Region.{Region}
use Rattle.table_files.specs.Headers.{kind_of_file, payload_of_file}
use Rattle.table_files.specs.Entries.{where_well}
use Rattle.table_files.specs.declared.fault.EntryFault.{EntryFault}
use Rattle.table_files.specs.declared.kinds.TableKind.{TableKind}
use Rattle.table_files.specs.declared.kinds.TableKind.TheVariants.{AppMon, EventMon, ExeCount, MsgActs, Ats, Rts, Dwell, Eeprom, Memory, Wdt, Adt}
use Rattle.cs_slices.specs.declared.segments.Segment.{Segment}
use Rattle.cs_slices.specs.Tables.{blank_segments, segments_of, segments_fault_of}
use Rattle.cs_slices.specs.Given.{SegmentsGiven, first_refused as first_refused_segment}
use Rattle.md_dwell.specs.Tables.{DwellTable, blank_table, dwell_of, dwell_fault_of}
use Rattle.md_dwell.specs.Given.{TablesGiven, first_refused}
use Rattle.sc_tables.specs.Commands.{TimedCommand, of_timed, of_relative}
use Rattle.sc_tables.specs.Absolute.{ats_of, ats_fault_of}
use Rattle.sc_tables.specs.Relative.{rts_of, rts_fault_of}
use Rattle.hs_tables.specs.Apps as apps
use Rattle.hs_tables.specs.Events as events
use Rattle.hs_tables.specs.Counters as counters
use Rattle.hs_tables.specs.Actions as actions
use Rattle.hs_tables.specs.declared.tables.HsTables.{HsTables}
use Rattle.lc_watch.specs.Watchpoints as watchpoints
use Rattle.lc_watch.specs.Actionpoints as actionpoints
use Rattle.lc_watch.specs.declared.watchpoints.WatchRow.{WatchRow}
use Rattle.lc_watch.specs.declared.actionpoints.ActRow.{ActRow}
use Rattle.active_tables.specs.declared.loading.TablesFault.{TablesFault}
use Rattle.active_tables.specs.declared.giving.OpenFault.{OpenFault}
use Rattle.active_tables.specs.declared.giving.OpenFault.TheVariants.{Region as AtRegion, NoMemory}

-- the tables of the applications: MD's four, CS's two, those of HS, the commands of SC's sequences, absolute ones first, and LC's two
pub record TableSet : Type 0 where
  pub dwells : List DwellTable
  pub eeprom : List Segment
  pub memory : List Segment
  pub hs : HsTables
  pub sc : List (List TimedCommand)
  pub wdt : List WatchRow
  pub adt : List ActRow

-- the tables of HS where no file is named
abbrev pub blank_hs : HsTables
blank_hs = record { apps = apps.blank_rows; events = events.blank_rows; counts = counters.blank_rows; acts = actions.blank_rows }

-- the sequences of SC where no file is named: none has a command
abbrev pub blank_sc : List (List TimedCommand)
blank_sc = replicate 66 []

-- the tables where no file is named: all their bytes are 0
unfoldable pub blank_tables : TableSet
blank_tables = record { dwells = replicate 4 blank_table; eeprom = blank_segments; memory = blank_segments; hs = blank_hs; sc = blank_sc; wdt = watchpoints.blank_rows; adt = actionpoints.blank_rows }

-- what is said of a table of this kind and payload, or else of what is no table
abbrev pub by_kind : {A : Type 0} → A → (TableKind → List ℕ → A) → Option TableKind → List ℕ → A
by_kind none say None payload = none
by_kind none say (Some kind) payload = say kind payload

-- what is said of a file
unfoldable pub by_file : {A : Type 0} → A → (TableKind → List ℕ → A) → List ℕ → A
by_file none say file = by_kind none say (kind_of_file file) (payload_of_file file)

-- whether an application has the tables of this kind
abbrev pub is_loaded : TableKind → Bool
is_loaded (Dwell n) = true
is_loaded Eeprom = true
is_loaded Memory = true
is_loaded AppMon = true
is_loaded EventMon = true
is_loaded ExeCount = true
is_loaded MsgActs = true
is_loaded (Ats n) = true
is_loaded (Rts n) = true
is_loaded Wdt = true
is_loaded Adt = true

-- whether a table of this kind is one of LC
abbrev pub is_limits : TableKind → Bool
is_limits Wdt = true
is_limits Adt = true
is_limits (Dwell n) = false
is_limits Eeprom = false
is_limits Memory = false
is_limits AppMon = false
is_limits EventMon = false
is_limits ExeCount = false
is_limits MsgActs = false
is_limits (Ats n) = false
is_limits (Rts n) = false

-- the fault of the entries of a table
abbrev pub entry_fault : TableKind → List ℕ → Option EntryFault
entry_fault (Dwell n) payload = dwell_fault_of payload
entry_fault Eeprom payload = segments_fault_of payload
entry_fault Memory payload = segments_fault_of payload
entry_fault AppMon payload = apps.rows_fault_of payload
entry_fault EventMon payload = events.rows_fault_of payload
entry_fault ExeCount payload = counters.rows_fault_of payload
entry_fault MsgActs payload = actions.rows_fault_of payload
entry_fault (Ats n) payload = ats_fault_of payload
entry_fault (Rts n) payload = rts_fault_of payload
entry_fault Wdt payload = watchpoints.rows_fault_of payload
entry_fault Adt payload = actionpoints.rows_fault_of payload

-- the tables with one more, where its entries have no fault
abbrev pub with_table : TableSet → TableKind → List ℕ → TableSet
with_table tables (Dwell n) payload = where_well (record tables { dwells = slice_set tables.dwells (n - 1) (dwell_of payload) }) tables (dwell_fault_of payload)
with_table tables Eeprom payload = where_well (record tables { eeprom = segments_of payload }) tables (segments_fault_of payload)
with_table tables Memory payload = where_well (record tables { memory = segments_of payload }) tables (segments_fault_of payload)
with_table tables AppMon payload = where_well (record tables { hs = record tables.hs { apps = apps.rows_of payload } }) tables (apps.rows_fault_of payload)
with_table tables EventMon payload = where_well (record tables { hs = record tables.hs { events = events.rows_of payload } }) tables (events.rows_fault_of payload)
with_table tables ExeCount payload = where_well (record tables { hs = record tables.hs { counts = counters.rows_of payload } }) tables (counters.rows_fault_of payload)
with_table tables MsgActs payload = where_well (record tables { hs = record tables.hs { acts = actions.rows_of payload } }) tables (actions.rows_fault_of payload)
with_table tables (Ats n) payload = where_well (record tables { sc = slice_set tables.sc (n - 1) (map of_timed (ats_of payload)) }) tables (ats_fault_of payload)
with_table tables (Rts n) payload = where_well (record tables { sc = slice_set tables.sc (n + 1) (map of_relative (rts_of payload)) }) tables (rts_fault_of payload)
with_table tables Wdt payload = where_well (record tables { wdt = watchpoints.rows_of payload }) tables (watchpoints.rows_fault_of payload)
with_table tables Adt payload = where_well (record tables { adt = actionpoints.rows_of payload }) tables (actionpoints.rows_fault_of payload)

-- the first entry of a table that memory of these regions refuses, where its entries have no fault
abbrev pub refused_entry : List Region → TableKind → List ℕ → Option ℕ
refused_entry regions (Dwell n) payload = where_well (first_refused regions (dwell_of payload).entries) None (dwell_fault_of payload)
refused_entry regions Eeprom payload = where_well (first_refused_segment regions (segments_of payload)) None (segments_fault_of payload)
refused_entry regions Memory payload = where_well (first_refused_segment regions (segments_of payload)) None (segments_fault_of payload)
refused_entry regions AppMon payload = None
refused_entry regions EventMon payload = None
refused_entry regions ExeCount payload = None
refused_entry regions MsgActs payload = None
refused_entry regions (Ats n) payload = None
refused_entry regions (Rts n) payload = None
refused_entry regions Wdt payload = None
refused_entry regions Adt payload = None

-- the same of files
abbrev pub entry_fault_in : List ℕ → Option EntryFault
entry_fault_in file = by_file None entry_fault file

abbrev pub with_file : TableSet → List ℕ → TableSet
with_file tables file = by_file tables (with_table tables) file

abbrev pub refused_in : List Region → List ℕ → Option ℕ
refused_in regions file = by_file None (refused_entry regions) file

-- whether a file is a table of LC, and whether one of these is: LC is there exactly then
abbrev pub names_limits : List ℕ → Bool
names_limits file = by_file false (λ kind payload. is_limits kind) file

unfoldable pub lc_named : List (List ℕ) → Bool
lc_named files = list_any names_limits files

-- the tables that files name: the first file of a kind counts
unfoldable pub tables_of : List (List ℕ) → TableSet
tables_of [] = blank_tables
tables_of (file ∷ files) = with_file (tables_of files) file

-- what was said of file n, or else what was said behind it
abbrev pub said_or : {A : Type 0} → ℕ → Option A → Option (ℕ × A) → Option (ℕ × A)
said_or n None behind = behind
said_or n (Some said) behind = Some (n, said)

-- the first of these files of which something is said, and what; the first of them has number n
unfoldable pub first_said : {A : Type 0} → (List ℕ → Option A) → ℕ → List (List ℕ) → Option (ℕ × A)
first_said say n [] = None
first_said say n (file ∷ files) = said_or n (say file) (first_said say (n + 1) files)

-- the fault of the entries of file n
abbrev pub fault_at : ℕ × EntryFault → TablesFault
fault_at said = record { file = said.0; entry = said.1.entry; reason = said.1.reason }

-- the first fault that the entries of the files have: the first faulty file, and in it the fault that its loader answers
unfoldable pub tables_fault : List (List ℕ) → Option TablesFault
tables_fault files = option_map fault_at (first_said entry_fault_in 1 files)

-- the named files, and the tables that are active
pub record Loaded : Type 0 where
  pub files : List (List ℕ)
  pub set : TableSet

-- tables that were loaded from files
pub record AreLoaded (files : List (List ℕ)) (tables : Loaded) : Type 0 where
  pub kept : tables.files ≡ files
  pub well : tables_fault files ≡ None
  pub named : tables.set ≡ tables_of files

-- the first file with an entry that memory of these regions refuses, and its first such entry
unfoldable pub region_fault : List Region → List (List ℕ) → Option (ℕ × ℕ)
region_fault regions files = first_said (refused_in regions) 1 files

-- what the opening of a bench answers, by the entry that is refused: it is asked before memory is
abbrev pub Opens : {B : Type 0} → Option (ℕ × ℕ) → Result B OpenFault → Type 0
Opens refused (Ok bench) = refused ≡ None
Opens refused (Err (AtRegion file entry)) = refused ≡ Some (file, entry)
Opens refused (Err NoMemory) = refused ≡ None

-- memory of these regions gives what the entries of the tables read
pub record SetGiven (regions : List Region) (tables : TableSet) : Type 0 where
  pub dwells : TablesGiven regions tables.dwells
  pub eeprom : SegmentsGiven regions tables.eeprom
  pub memory : SegmentsGiven regions tables.memory

-- the files can be loaded, and memory of these regions gives what the entries of the tables that are active read, and of all others that
-- files name
pub record AreGiven (regions : List Region) (tables : Loaded) : Type 0 where
  pub well : tables_fault tables.files ≡ None
  pub set : SetGiven regions tables.set
  pub named : region_fault regions tables.files ≡ None
