-- Where no entry of the files is refused, memory gives what their tables read.
use Rattle.std.proofs.Common.{◌≡◌, ℕ, ◌+◌, ◌-◌, ◌<◌, length, get_or, true, List, [], ◌∷◌, replicate, map, zero, suc, Option, Some, None, option_map, refl, sym, ◌∙◌, ap, subst}
use Rattle.std.specs.Prelude.{slice_set}
use Rattle.std.specs.List.{AllPass}
use Rattle.std.proofs.lemmas.List.Elements.{All-set, All-replicate}
use Rattle.memory_window.specs.declared.regions.Region.{Region}
use Rattle.table_files.specs.Entries.{where_well}
use Rattle.table_files.specs.declared.fault.EntryFault.{EntryFault}
use Rattle.md_dwell.specs.Tables.{DwellTable, dwell_of, dwell_fault_of, blank_table, blank_entry}
use Rattle.md_dwell.specs.declared.tables.DwellEntry.{DwellEntry}
use Rattle.md_dwell.specs.Given.{is_given, first_refused, TablesGiven}
use Rattle.md_dwell.proofs.Gifts.{none_refused}
use Rattle.cs_slices.specs.declared.segments.Segment.{Segment}
use Rattle.sc_tables.specs.Commands.{TimedCommand, of_timed, of_relative}
use Rattle.sc_tables.specs.Absolute.{ats_of, ats_fault_of}
use Rattle.sc_tables.specs.Relative.{rts_of, rts_fault_of}
use Rattle.hs_tables.specs.Apps as apps
use Rattle.hs_tables.specs.Events as events
use Rattle.hs_tables.specs.Counters as counters
use Rattle.hs_tables.specs.Actions as actions
use Rattle.lc_watch.specs.Watchpoints as watchpoints
use Rattle.lc_watch.specs.Actionpoints as actionpoints
use Rattle.lc_watch.specs.declared.watchpoints.WatchRow.{WatchRow}
use Rattle.lc_watch.specs.declared.actionpoints.ActRow.{ActRow}
use Rattle.hs_tables.specs.declared.tables.HsTables.{HsTables}
use Rattle.cs_slices.specs.Tables.{segments_of, segments_fault_of, blank_segment, blank_segments}
use Rattle.cs_slices.specs.Given.{is_given as is_segment_given, first_refused as first_refused_segment, SegmentsGiven}
use Rattle.cs_slices.proofs.Refusing.{none_refused as no_segment_refused}
use Rattle.table_files.specs.declared.kinds.TableKind.{TableKind}
use Rattle.table_files.specs.declared.kinds.TableKind.TheVariants.{AppMon, EventMon, ExeCount, MsgActs, Ats, Rts, Dwell, Eeprom, Memory, Wdt, Adt}
use Rattle.table_files.specs.Headers.{kind_of_file, payload_of_file, file_fault_of}
use Rattle.table_files.specs.Files.{file_at}
use Rattle.active_tables.specs.Tables.{TableSet, Loaded, AreLoaded, AreGiven, SetGiven, blank_tables, by_kind, by_file, with_table, with_file, tables_of, said_or, first_said, refused_entry, refused_in, entry_fault_in, fault_at, tables_fault, region_fault}

-- one table more
module _ (regions : List Region) (tables : TableSet) (given : SetGiven regions tables) where
  dwell_given : (n : ℕ) (payload : List ℕ) (fault : Option EntryFault) → where_well (first_refused regions (dwell_of payload).entries) None fault ≡ None
      → SetGiven regions (where_well (record tables { dwells = slice_set tables.dwells (n - 1) (dwell_of payload) }) tables fault)
  unfolding TablesGiven
  dwell_given n payload None none = record {
    dwells = All-set (λ (t : DwellTable). AllPass (is_given regions) t.entries) tables.dwells (n - 1) (dwell_of payload) (none_refused regions (dwell_of payload).entries none) given.dwells;
    eeprom = given.eeprom;
    memory = given.memory;
  }
  dwell_given n payload (Some fault) none = given

  eeprom_given : (payload : List ℕ) (fault : Option EntryFault) → where_well (first_refused_segment regions (segments_of payload)) None fault ≡ None
      → SetGiven regions (where_well (record tables { eeprom = segments_of payload }) tables fault)
  eeprom_given payload None none = record { dwells = given.dwells; eeprom = no_segment_refused regions (segments_of payload) none; memory = given.memory }
  eeprom_given payload (Some fault) none = given

  memory_given : (payload : List ℕ) (fault : Option EntryFault) → where_well (first_refused_segment regions (segments_of payload)) None fault ≡ None
      → SetGiven regions (where_well (record tables { memory = segments_of payload }) tables fault)
  memory_given payload None none = record { dwells = given.dwells; eeprom = given.eeprom; memory = no_segment_refused regions (segments_of payload) none }
  memory_given payload (Some fault) none = given

  hs_given : (hs : HsTables) (fault : Option EntryFault) → SetGiven regions (where_well (record tables { hs = hs }) tables fault)
  hs_given hs None = record { dwells = given.dwells; eeprom = given.eeprom; memory = given.memory }
  hs_given hs (Some fault) = given

  sc_given : (sc : List (List TimedCommand)) (fault : Option EntryFault) → SetGiven regions (where_well (record tables { sc = sc }) tables fault)
  sc_given sc None = record { dwells = given.dwells; eeprom = given.eeprom; memory = given.memory }
  sc_given sc (Some fault) = given

  watch_given : (wdt : List WatchRow) (fault : Option EntryFault) → SetGiven regions (where_well (record tables { wdt = wdt }) tables fault)
  watch_given wdt None = record { dwells = given.dwells; eeprom = given.eeprom; memory = given.memory }
  watch_given wdt (Some fault) = given

  act_given : (adt : List ActRow) (fault : Option EntryFault) → SetGiven regions (where_well (record tables { adt = adt }) tables fault)
  act_given adt None = record { dwells = given.dwells; eeprom = given.eeprom; memory = given.memory }
  act_given adt (Some fault) = given

  table_given : (kind : TableKind) (payload : List ℕ) → refused_entry regions kind payload ≡ None → SetGiven regions (with_table tables kind payload)
  table_given (Dwell n) payload none = dwell_given n payload (dwell_fault_of payload) none
  table_given Eeprom payload none = eeprom_given payload (segments_fault_of payload) none
  table_given Memory payload none = memory_given payload (segments_fault_of payload) none
  table_given AppMon payload none = hs_given (record tables.hs { apps = apps.rows_of payload }) (apps.rows_fault_of payload)
  table_given EventMon payload none = hs_given (record tables.hs { events = events.rows_of payload }) (events.rows_fault_of payload)
  table_given ExeCount payload none = hs_given (record tables.hs { counts = counters.rows_of payload }) (counters.rows_fault_of payload)
  table_given MsgActs payload none = hs_given (record tables.hs { acts = actions.rows_of payload }) (actions.rows_fault_of payload)
  table_given (Ats n) payload none = sc_given (slice_set tables.sc (n - 1) (map of_timed (ats_of payload))) (ats_fault_of payload)
  table_given (Rts n) payload none = sc_given (slice_set tables.sc (n + 1) (map of_relative (rts_of payload))) (rts_fault_of payload)
  table_given Wdt payload none = watch_given (watchpoints.rows_of payload) (watchpoints.rows_fault_of payload)
  table_given Adt payload none = act_given (actionpoints.rows_of payload) (actionpoints.rows_fault_of payload)

  kind_given : (kind : Option TableKind) (payload : List ℕ) → by_kind None (refused_entry regions) kind payload ≡ None → SetGiven regions (by_kind tables (with_table tables) kind payload)
  kind_given None payload none = given
  kind_given (Some kind) payload none = table_given kind payload none

-- nothing is said of any file
pub said_parts : {A : Type 0} (n : ℕ) (said : Option A) (behind : Option (ℕ × A)) → said_or n said behind ≡ None → (said ≡ None) × (behind ≡ None)
said_parts n None behind none = (refl, none)
said_parts n (Some said) behind none = cc

-- nothing is said of any of these files, nor of none
pub unsaid : {A : Type 0} (say : List ℕ → Option A) (files : List (List ℕ)) (n i : ℕ) → first_said say n files ≡ None → say [] ≡ None → say (get_or files i []) ≡ None
unfolding first_said
unsaid say [] n i none blank = blank
unsaid say (file ∷ files) n i none blank =
    let parts = said_parts n (say file) (first_said say (n + 1) files) none in
    at_place i parts.0 (λ k. unsaid say files (n + 1) k parts.1 blank)
  where
    at_place : (i : ℕ) → say file ≡ None → ((k : ℕ) → say (get_or files k []) ≡ None) → say (get_or (file ∷ files) i []) ≡ None
    at_place zero here behind = here
    at_place (suc i) here behind = behind i

-- the entries of a file without bytes have no fault, and those of a named file neither
blank_well : entry_fault_in [] ≡ None
unfolding by_file kind_of_file file_fault_of
blank_well = refl

none_at : (said : Option (ℕ × EntryFault)) → option_map fault_at said ≡ None → said ≡ None
none_at None none = refl
none_at (Some said) none = cc

pub file_well : (files : List (List ℕ)) (n : ℕ) → tables_fault files ≡ None → entry_fault_in (file_at files n) ≡ None
unfolding tables_fault
file_well files n none = unsaid entry_fault_in files 1 (n - 1) (none_at (first_said entry_fault_in 1 files) none) blank_well

-- blank tables
blank_entries : (regions : List Region) → AllPass (is_given regions) (replicate 25 blank_entry)
unfolding is_given
blank_entries regions = All-replicate (λ (e : DwellEntry). is_given regions e ≡ true) 25 blank_entry refl

blank_dwell : (regions : List Region) → AllPass (is_given regions) blank_table.entries
unfolding blank_table
blank_dwell regions = blank_entries regions

blank_dwells : (regions : List Region) → TablesGiven regions (replicate 4 blank_table)
unfolding TablesGiven
blank_dwells regions = All-replicate (λ (t : DwellTable). AllPass (is_given regions) t.entries) 4 blank_table (blank_dwell regions)

blank_segment_given : (regions : List Region) → SegmentsGiven regions blank_segments
unfolding SegmentsGiven blank_segments is_segment_given
blank_segment_given regions = All-replicate (λ (s : Segment). is_segment_given regions s ≡ true) 16 blank_segment refl

blank_given : (regions : List Region) → SetGiven regions blank_tables
unfolding blank_tables
blank_given regions = record { dwells = blank_dwells regions; eeprom = blank_segment_given regions; memory = blank_segment_given regions }

-- the tables of all files
files_given : (regions : List Region) (files : List (List ℕ)) (n : ℕ) → first_said (refused_in regions) n files ≡ None → SetGiven regions (tables_of files)
unfolding first_said tables_of by_file
files_given regions [] n none = blank_given regions
files_given regions (file ∷ files) n none =
    let parts = said_parts n (refused_in regions file) (first_said (refused_in regions) (n + 1) files) none in
    kind_given regions (tables_of files) (files_given regions files (n + 1) parts.1) (kind_of_file file) (payload_of_file file) parts.0

given_tables : (regions : List Region) (files : List (List ℕ)) → region_fault regions files ≡ None → SetGiven regions (tables_of files)
unfolding region_fault
given_tables regions files none = files_given regions files 1 none

-- tables that were loaded
pub given_loaded : (regions : List Region) (files : List (List ℕ)) (tables : Loaded) → AreLoaded files tables → region_fault regions files ≡ None → AreGiven regions tables
given_loaded regions files tables loaded none = record {
  well = ap tables_fault loaded.kept ∙ loaded.well;
  set = subst (SetGiven regions) (sym loaded.named) (given_tables regions files none);
  named = ap (region_fault regions) loaded.kept ∙ none;
}

-- the table of one file more
pub file_given : (regions : List Region) (tables : TableSet) → SetGiven regions tables → (file : List ℕ) → refused_in regions file ≡ None → SetGiven regions (with_file tables file)
unfolding by_file
file_given regions tables given file none = kind_given regions tables given (kind_of_file file) (payload_of_file file) none

-- one of the dwell tables
pub given_at : (regions : List Region) (dwells : List DwellTable) (i : ℕ) (table : DwellTable) → TablesGiven regions dwells → i < length dwells → table ≡ get_or dwells i table → AllPass (is_given regions) table.entries
unfolding TablesGiven
given_at regions dwells i table all within is = subst (λ (t : DwellTable). AllPass (is_given regions) t.entries) (sym is) (all i table within)

-- the first file of each kind again
pub given_again : (regions : List Region) (old new : Loaded) → new ≡ record { files = old.files; set = tables_of old.files } → AreGiven regions old → AreGiven regions new
given_again regions old new is given = subst (AreGiven regions) (sym is) (record { well = given.well; set = given_tables regions old.files given.named; named = given.named })
