-- Tables that become active, and what of a bench goes on.
use Rattle.std.proofs.lemmas.Bool.{false≢true}
use Rattle.std.proofs.Common.{◌≡◌, ℕ, ◌+◌, ◌-◌, ◌≤◌, zero, suc, true, false, List, [], ◌∷◌, ◌++◌, set, arith, Option, Some, None, refl, sym, ◌∙◌, ap, subst, append-nil}
use Rattle.std.specs.Prelude.{map}
use Rattle.histories.specs.Entries.Entry.{Activated}
use Rattle.histories.proofs.Entries.{in_force_activated}
use Rattle.memory_window.specs.declared.regions.Region.{Region}
use Rattle.table_files.specs.Files.{file_at, kind_at}
use Rattle.table_files.proofs.Lists.{numbers_of_tables}
use Rattle.table_files.specs.Headers.{file_fault_of, kind_of_file, payload_of_file}
use Rattle.table_files.specs.declared.fault.EntryFault.{EntryFault}
use Rattle.table_files.specs.declared.kinds.TableKind.{TableKind}
use Rattle.table_files.specs.declared.kinds.TableKind.TheVariants.{AppMon, EventMon, ExeCount, MsgActs, Ats, Rts, Dwell, Eeprom, Memory, Wdt, Adt}
use Rattle.hs_tables.specs.Apps as apps
use Rattle.hs_tables.specs.Events as events
use Rattle.hs_tables.specs.Counters as counters
use Rattle.hs_tables.specs.Actions as actions
use Rattle.lc_watch.specs.Watchpoints as watchpoints
use Rattle.lc_watch.specs.Actionpoints as actionpoints
use Rattle.hs_tables.specs.declared.apps.AppRow.{AppRow}
use Rattle.hs_tables.specs.declared.events.EventRow.{EventRow}
use Rattle.hs_tables.specs.declared.counters.CountRow.{CountRow}
use Rattle.hs_tables.specs.declared.tables.HsTables.{HsTables}
use Rattle.hs_monitors.specs.Histories.{Activation, HsEntry, Setup as HsSetup, apps_in, events_in, counts_in, tables_after}
use Rattle.hs_monitors.specs.Histories.Activation.{Apps, Events, Counts}
use Rattle.hs_monitors.specs.State.{Stands, activation_of}
use Rattle.hs_monitors.specs.declared.state.Hs.{Hs}
use Rattle.md_dwell.specs.Tables.{dwell_of, dwell_fault_of}
use Rattle.std.specs.Prelude.{slice_set}
use Rattle.table_files.specs.Entries.{where_well}
use Rattle.active_tables.specs.Tables.{TableSet, with_table, by_file, with_file, refused_in, region_fault}
use Rattle.std.proofs.lemmas.Bool.Decides.{nat_tests}
use Rattle.std.proofs.lemmas.List.{set-set, set-get_or}
use Rattle.cs_slices.specs.Tables.{TablePair, pair_of, segments_of, segments_fault_of}
use Rattle.cs_slices.specs.Histories.{CsEntry, activation_of as cs_activation_of, tables_after as cs_tables_after}
use Rattle.cs_slices.specs.declared.segments.Segment.{Segment}
use Rattle.cs_slices.proofs.Histories.{tables_activated}
use Rattle.sc_tables.specs.Commands.{TimedCommand, commands_in, of_timed, of_relative}
use Rattle.sc_tables.specs.Absolute.{ats_of, ats_fault_of}
use Rattle.sc_tables.specs.Relative.{rts_of, rts_fault_of}
use Rattle.sc_sequences.specs.Sequences.{Sequence, is_running, at_place, with_at, ats_place, rts_place}
use Rattle.sc_sequences.specs.Turns.{Sequences}
use Rattle.sc_sequences.specs.Histories.{Activation as ScActivation, ScEntry, Beginning, activation_at, with_loaded, sequences_of, tables_after as sc_tables_after}
use Rattle.sc_sequences.specs.State.{Stands as ScStands, sequence_place, runs_in, activation_of as sc_activation}
use Rattle.sc_sequences.specs.declared.state.Sc.{Sc}
use Rattle.sc_sequences.proofs.Loaded.{tables_activated as sequences_activated}
use Rattle.sc_sequences.proofs.Waking.{sequences_more}
use Rattle.sc_sequences.proofs.Activating.{kind_activated}
use Rattle.table_files.specs.Kinds.{IsKnown}
use Rattle.bus_pipes.specs.Counted.{is_item_counted}
use Rattle.commands.proofs.Answering.{event_counted}
use Rattle.active_tables.proofs.GivenTables.{unsaid}
use Rattle.app_suite.specs.Applications.{cs_tables, lc_setup}
use Rattle.app_suite.specs.Activations.{can_activate, activated, hs_activated, cs_activated, sc_activated, tables_name, table_event}
use Rattle.app_suite.specs.declared.activations.Naming.{Naming}
use Rattle.app_suite.specs.declared.activations.Naming.TheVariants.{Accepted, Refused, Running}

-- what a table more leaves, whether its entries have a fault or not
left_where : {B : Type 0} (f : TableSet → B) (well tables : TableSet) (fault : Option EntryFault) → f well ≡ f tables → f (where_well well tables fault) ≡ f tables
left_where f well tables None same = same
left_where f well tables (Some fault) same = refl

-- the tables of HS that are active behind an activation more
apps_more : (setup : HsSetup) (history : List HsEntry) (rows : List AppRow) → tables_after setup (history ++ Activated (Apps rows) ∷ []) ≡ record (tables_after setup history) { apps = rows }
apps_more setup history rows =
    rw (in_force_activated apps_in setup.tables.apps history (Apps rows), in_force_activated events_in setup.tables.events history (Apps rows), in_force_activated counts_in setup.tables.counts history (Apps rows)) refl

events_more : (setup : HsSetup) (history : List HsEntry) (rows : List EventRow) → tables_after setup (history ++ Activated (Events rows) ∷ []) ≡ record (tables_after setup history) { events = rows }
events_more setup history rows =
    rw (in_force_activated apps_in setup.tables.apps history (Events rows), in_force_activated events_in setup.tables.events history (Events rows), in_force_activated counts_in setup.tables.counts history (Events rows)) refl

counts_more : (setup : HsSetup) (history : List HsEntry) (rows : List CountRow) → tables_after setup (history ++ Activated (Counts rows) ∷ []) ≡ record (tables_after setup history) { counts = rows }
counts_more setup history rows =
    rw (in_force_activated apps_in setup.tables.apps history (Counts rows), in_force_activated events_in setup.tables.events history (Counts rows), in_force_activated counts_in setup.tables.counts history (Counts rows)) refl

-- a table of HS changes that table alone
module _ (tables : TableSet) where
  apps_alone : (rows : List AppRow) (fault : Option EntryFault) → let new = where_well (record tables { hs = record tables.hs { apps = rows } }) tables fault in new.hs ≡ record tables.hs { apps = new.hs.apps }
  apps_alone rows None = refl
  apps_alone rows (Some fault) = refl

  events_alone : (rows : List EventRow) (fault : Option EntryFault) → let new = where_well (record tables { hs = record tables.hs { events = rows } }) tables fault in new.hs ≡ record tables.hs { events = new.hs.events }
  events_alone rows None = refl
  events_alone rows (Some fault) = refl

  counts_alone : (rows : List CountRow) (fault : Option EntryFault) → let new = where_well (record tables { hs = record tables.hs { counts = rows } }) tables fault in new.hs ≡ record tables.hs { counts = new.hs.counts }
  counts_alone rows None = refl
  counts_alone rows (Some fault) = refl

-- other tables leave them
hs_stays : (setup : HsSetup) (history : List HsEntry) (tables well : TableSet) (fault : Option EntryFault) → well.hs ≡ tables.hs → tables.hs ≡ tables_after setup history
    → (where_well well tables fault).hs ≡ tables_after setup (history ++ [])
hs_stays setup history tables well fault same is = left_where (λ (t : TableSet). t.hs) well tables fault same ∙ is ∙ ap (tables_after setup) (sym (append-nil history))

-- the tables of HS that are active once a table became active are those behind its activation
pub hs_follow : (setup : HsSetup) (history : List HsEntry) (tables : TableSet) (kind : TableKind) (payload : List ℕ) → can_activate kind ≡ true → tables.hs ≡ tables_after setup history
    → (with_table tables kind payload).hs ≡ tables_after setup (history ++ hs_activated kind (with_table tables kind payload).hs)
hs_follow setup history tables AppMon payload can is =
    let rows = (with_table tables AppMon payload).hs.apps in
    apps_alone tables (apps.rows_of payload) (apps.rows_fault_of payload) ∙ ap (λ (hs : HsTables). record hs { apps = rows }) is ∙ sym (apps_more setup history rows)
hs_follow setup history tables EventMon payload can is =
    let rows = (with_table tables EventMon payload).hs.events in
    events_alone tables (events.rows_of payload) (events.rows_fault_of payload) ∙ ap (λ (hs : HsTables). record hs { events = rows }) is ∙ sym (events_more setup history rows)
hs_follow setup history tables ExeCount payload can is =
    let rows = (with_table tables ExeCount payload).hs.counts in
    counts_alone tables (counters.rows_of payload) (counters.rows_fault_of payload) ∙ ap (λ (hs : HsTables). record hs { counts = rows }) is ∙ sym (counts_more setup history rows)
hs_follow setup history tables (Dwell n) payload can is = hs_stays setup history tables (record tables { dwells = slice_set tables.dwells (n - 1) (dwell_of payload) }) (dwell_fault_of payload) refl is
hs_follow setup history tables (Ats n) payload can is = hs_stays setup history tables (record tables { sc = slice_set tables.sc (n - 1) (map of_timed (ats_of payload)) }) (ats_fault_of payload) refl is
hs_follow setup history tables (Rts n) payload can is = hs_stays setup history tables (record tables { sc = slice_set tables.sc (n + 1) (map of_relative (rts_of payload)) }) (rts_fault_of payload) refl is
hs_follow setup history tables Eeprom payload can is = hs_stays setup history tables (record tables { eeprom = segments_of payload }) (segments_fault_of payload) refl is
hs_follow setup history tables Memory payload can is = hs_stays setup history tables (record tables { memory = segments_of payload }) (segments_fault_of payload) refl is
hs_follow setup history tables MsgActs payload can is = absurd (false≢true can)
hs_follow setup history tables Wdt payload can is = absurd (false≢true can)
hs_follow setup history tables Adt payload can is = absurd (false≢true can)

-- the state of HS behind an activation, where there is one
hs_by : (setup : HsSetup) (history : List HsEntry) (old new : Hs) (made : Option Activation) → ((a : Activation) → made ≡ Some a → Stands setup (history ++ Activated a ∷ []) new) → (made ≡ None → new ≡ old)
    → Stands setup history old → Stands setup (history ++ activated made) new
hs_by setup history old new (Some a) given other stands = given a refl
hs_by setup history old new None given other stands = subst (λ (h : List HsEntry). Stands setup h new) (sym (append-nil history)) (subst (Stands setup history) (sym (other refl)) stands)

pub hs_goes : (setup : HsSetup) (history : List HsEntry) (kind : TableKind) (tables : HsTables) (old new : Hs)
    → ((s : HsSetup) (h : List HsEntry) (a : Activation) → activation_of kind tables ≡ Some a → Stands s h old → Stands s (h ++ Activated a ∷ []) new) → (activation_of kind tables ≡ None → new ≡ old)
    → Stands setup history old → Stands setup (history ++ hs_activated kind tables) new
hs_goes setup history kind tables old new given other stands = hs_by setup history old new (activation_of kind tables) (λ a is. given setup history a is stands) other stands

-- a table of CS changes that table alone
module _ (tables : TableSet) (segments : List Segment) where
  eeprom_alone : (fault : Option EntryFault) → let new = where_well (record tables { eeprom = segments }) tables fault in cs_tables new ≡ pair_of new.eeprom tables.memory
  eeprom_alone None = refl
  eeprom_alone (Some fault) = refl

  memory_alone : (fault : Option EntryFault) → let new = where_well (record tables { memory = segments }) tables fault in cs_tables new ≡ pair_of tables.eeprom new.memory
  memory_alone None = refl
  memory_alone (Some fault) = refl

-- and other tables leave both
cs_stays : (first : TablePair) (history : List CsEntry) (tables well : TableSet) (fault : Option EntryFault) → cs_tables well ≡ cs_tables tables → cs_tables tables ≡ cs_tables_after first history
    → cs_tables (where_well well tables fault) ≡ cs_tables_after first (history ++ [])
cs_stays first history tables well fault same is = left_where cs_tables well tables fault same ∙ is ∙ ap (cs_tables_after first) (sym (append-nil history))

-- the tables of CS that are active once a table became active are those behind its activation
pub cs_follow : (first : TablePair) (history : List CsEntry) (tables : TableSet) (kind : TableKind) (payload : List ℕ) → cs_tables tables ≡ cs_tables_after first history
    → cs_tables (with_table tables kind payload) ≡ cs_tables_after first (history ++ cs_activated kind (with_table tables kind payload))
cs_follow first history tables Eeprom payload is =
    let segments = (with_table tables Eeprom payload).eeprom in
    eeprom_alone tables (segments_of payload) (segments_fault_of payload) ∙ ap (λ (t : TablePair). pair_of segments t.memory) is ∙ sym (tables_activated first history (cs_activation_of 1 segments))
cs_follow first history tables Memory payload is =
    let segments = (with_table tables Memory payload).memory in
    memory_alone tables (segments_of payload) (segments_fault_of payload) ∙ ap (λ (t : TablePair). pair_of t.eeprom segments) is ∙ sym (tables_activated first history (cs_activation_of 2 segments))
cs_follow first history tables AppMon payload is = cs_stays first history tables (record tables { hs = record tables.hs { apps = apps.rows_of payload } }) (apps.rows_fault_of payload) refl is
cs_follow first history tables EventMon payload is = cs_stays first history tables (record tables { hs = record tables.hs { events = events.rows_of payload } }) (events.rows_fault_of payload) refl is
cs_follow first history tables ExeCount payload is = cs_stays first history tables (record tables { hs = record tables.hs { counts = counters.rows_of payload } }) (counters.rows_fault_of payload) refl is
cs_follow first history tables MsgActs payload is = cs_stays first history tables (record tables { hs = record tables.hs { acts = actions.rows_of payload } }) (actions.rows_fault_of payload) refl is
cs_follow first history tables (Dwell n) payload is = cs_stays first history tables (record tables { dwells = slice_set tables.dwells (n - 1) (dwell_of payload) }) (dwell_fault_of payload) refl is
cs_follow first history tables (Ats n) payload is = cs_stays first history tables (record tables { sc = slice_set tables.sc (n - 1) (map of_timed (ats_of payload)) }) (ats_fault_of payload) refl is
cs_follow first history tables (Rts n) payload is = cs_stays first history tables (record tables { sc = slice_set tables.sc (n + 1) (map of_relative (rts_of payload)) }) (rts_fault_of payload) refl is
cs_follow first history tables Wdt payload is = cs_stays first history tables (record tables { wdt = watchpoints.rows_of payload }) (watchpoints.rows_fault_of payload) refl is
cs_follow first history tables Adt payload is = cs_stays first history tables (record tables { adt = actionpoints.rows_of payload }) (actionpoints.rows_fault_of payload) refl is

-- the commands of the sequences that are active once one became active are those behind its activation
sc_stays : (begin : Beginning) (history : List ScEntry) (tables well : TableSet) (fault : Option EntryFault) → well.sc ≡ tables.sc → tables.sc ≡ sc_tables_after begin history
    → (where_well well tables fault).sc ≡ sc_tables_after begin (history ++ [])
sc_stays begin history tables well fault same is = left_where (λ (t : TableSet). t.sc) well tables fault same ∙ is ∙ ap (sc_tables_after begin) (sym (append-nil history))

sc_loads : (begin : Beginning) (history : List ScEntry) (tables : TableSet) (place : ℕ) (commands : List TimedCommand) (fault : Option EntryFault) → tables.sc ≡ sc_tables_after begin history
    → let new = (where_well (record tables { sc = slice_set tables.sc place commands }) tables fault).sc in new ≡ sc_tables_after begin (history ++ Activated (activation_at place (commands_in new place)) ∷ [])
sc_loads begin history tables place commands None is =
    let new = set tables.sc place commands in
    sym (sequences_activated begin history (activation_at place (commands_in new place)) ∙ ap (λ (t : List (List TimedCommand)). set t place (commands_in new place)) (sym is)
    ∙ sym (set-set tables.sc place commands (commands_in new place)) ∙ set-get_or new place [])
sc_loads begin history tables place commands (Some fault) is =
    sym (sequences_activated begin history (activation_at place (commands_in tables.sc place)) ∙ ap (λ (t : List (List TimedCommand)). set t place (commands_in tables.sc place)) (sym is) ∙ set-get_or tables.sc place [])

ats_at : (n : ℕ) → 1 ≤ n → n ≤ 2 → ats_place n ≡ Some (n - 1)
ats_at n low high = grind (arith, nat_tests)

rts_at : (n : ℕ) → 1 ≤ n → n ≤ 64 → rts_place n ≡ Some (n + 1)
rts_at n low high = grind (arith, nat_tests)

pub sc_follow : (begin : Beginning) (history : List ScEntry) (tables : TableSet) (kind : TableKind) (payload : List ℕ) → IsKnown kind → tables.sc ≡ sc_tables_after begin history
    → (with_table tables kind payload).sc ≡ sc_tables_after begin (history ++ sc_activated kind (with_table tables kind payload).sc)
sc_follow begin history tables (Ats n) payload known is =
    rw (ats_at n known.0 known.1) (sc_loads begin history tables (n - 1) (map of_timed (ats_of payload)) (ats_fault_of payload) is)
sc_follow begin history tables (Rts n) payload known is =
    rw (rts_at n known.0 known.1) (sc_loads begin history tables (n + 1) (map of_relative (rts_of payload)) (rts_fault_of payload) is)
sc_follow begin history tables AppMon payload known is = sc_stays begin history tables (record tables { hs = record tables.hs { apps = apps.rows_of payload } }) (apps.rows_fault_of payload) refl is
sc_follow begin history tables EventMon payload known is = sc_stays begin history tables (record tables { hs = record tables.hs { events = events.rows_of payload } }) (events.rows_fault_of payload) refl is
sc_follow begin history tables ExeCount payload known is = sc_stays begin history tables (record tables { hs = record tables.hs { counts = counters.rows_of payload } }) (counters.rows_fault_of payload) refl is
sc_follow begin history tables MsgActs payload known is = sc_stays begin history tables (record tables { hs = record tables.hs { acts = actions.rows_of payload } }) (actions.rows_fault_of payload) refl is
sc_follow begin history tables (Dwell n) payload known is = sc_stays begin history tables (record tables { dwells = slice_set tables.dwells (n - 1) (dwell_of payload) }) (dwell_fault_of payload) refl is
sc_follow begin history tables Eeprom payload known is = sc_stays begin history tables (record tables { eeprom = segments_of payload }) (segments_fault_of payload) refl is
sc_follow begin history tables Memory payload known is = sc_stays begin history tables (record tables { memory = segments_of payload }) (segments_fault_of payload) refl is
sc_follow begin history tables Wdt payload known is = sc_stays begin history tables (record tables { wdt = watchpoints.rows_of payload }) (watchpoints.rows_fault_of payload) refl is
sc_follow begin history tables Adt payload known is = sc_stays begin history tables (record tables { adt = actionpoints.rows_of payload }) (actionpoints.rows_fault_of payload) refl is

-- the tables of LC stay where a table becomes active that can
pub limits_stay : (tables : TableSet) (kind : TableKind) (payload : List ℕ) → can_activate kind ≡ true → lc_setup (with_table tables kind payload) ≡ lc_setup tables
limits_stay tables AppMon payload can = left_where lc_setup (record tables { hs = record tables.hs { apps = apps.rows_of payload } }) tables (apps.rows_fault_of payload) refl
limits_stay tables EventMon payload can = left_where lc_setup (record tables { hs = record tables.hs { events = events.rows_of payload } }) tables (events.rows_fault_of payload) refl
limits_stay tables ExeCount payload can = left_where lc_setup (record tables { hs = record tables.hs { counts = counters.rows_of payload } }) tables (counters.rows_fault_of payload) refl
limits_stay tables (Dwell n) payload can = left_where lc_setup (record tables { dwells = slice_set tables.dwells (n - 1) (dwell_of payload) }) tables (dwell_fault_of payload) refl
limits_stay tables (Ats n) payload can = left_where lc_setup (record tables { sc = slice_set tables.sc (n - 1) (map of_timed (ats_of payload)) }) tables (ats_fault_of payload) refl
limits_stay tables (Rts n) payload can = left_where lc_setup (record tables { sc = slice_set tables.sc (n + 1) (map of_relative (rts_of payload)) }) tables (rts_fault_of payload) refl
limits_stay tables Eeprom payload can = left_where lc_setup (record tables { eeprom = segments_of payload }) tables (segments_fault_of payload) refl
limits_stay tables Memory payload can = left_where lc_setup (record tables { memory = segments_of payload }) tables (segments_fault_of payload) refl
limits_stay tables MsgActs payload can = absurd (false≢true can)
limits_stay tables Wdt payload can = absurd (false≢true can)
limits_stay tables Adt payload can = absurd (false≢true can)

-- the state of SC behind the activation of a sequence that doesn't run, where there is one
sc_by : (begin : Beginning) (history : List ScEntry) (sc : Sc) (made : Option ScActivation) → ((a : ScActivation) → made ≡ Some a → ScStands begin (history ++ Activated a ∷ []) sc) → ScStands begin history sc → ScStands begin (history ++ activated made) sc
sc_by begin history sc (Some a) given stands = given a refl
sc_by begin history sc None given stands = subst (λ (h : List ScEntry). ScStands begin h sc) (sym (append-nil history)) stands

pub sc_goes : (begin : Beginning) (history : List ScEntry) (kind : TableKind) (sequences : List (List TimedCommand)) (sc : Sc) → runs_in (sequences_of begin history).all (sequence_place kind) ≡ false → ScStands begin history sc
    → ScStands begin (history ++ sc_activated kind sequences) sc
sc_goes begin history kind sequences sc rests stands =
    sc_by begin history sc (sc_activation kind sequences) (λ a is. kind_activated begin history kind sequences a sc is rests stands) stands

-- an activation leaves which sequences run
loaded_runs : (all : List Sequence) (place k : ℕ) (commands : List TimedCommand) → is_running (at_place (with_at place (with_loaded commands) all) k) ≡ is_running (at_place all k)
loaded_runs [] place k commands = refl
loaded_runs (s ∷ all) zero zero commands = refl
loaded_runs (s ∷ all) zero (suc k) commands = refl
loaded_runs (s ∷ all) (suc place) zero commands = refl
loaded_runs (s ∷ all) (suc place) (suc k) commands = loaded_runs all place k commands

pub runs_kept : (begin : Beginning) (history : List ScEntry) (made : Option ScActivation) (place : Option ℕ) → runs_in (sequences_of begin (history ++ activated made)).all place ≡ runs_in (sequences_of begin history).all place
runs_kept begin history made None = refl
runs_kept begin history None (Some k) = ap (λ (h : List ScEntry). runs_in (sequences_of begin h).all (Some k)) (append-nil history)
runs_kept begin history (Some a) (Some k) =
    ap (λ (s : Sequences). is_running (at_place s.all k)) (sequences_more begin history (Activated a)) ∙ loaded_runs (sequences_of begin history).all a.place k a.commands

-- what is said of a file with the number of a table is said of a table of its kind
pub with_kind : (tables : TableSet) (files : List (List ℕ)) (n : ℕ) (kind : TableKind) → kind_at files n ≡ Some kind → with_file tables (file_at files n) ≡ with_table tables kind (payload_of_file (file_at files n))
unfolding by_file
with_kind tables files n kind is = rw (((numbers_of_tables files n kind).0 is).2) refl

-- of a file without bytes nothing is said
blank_unrefused : (regions : List Region) → refused_in regions [] ≡ None
unfolding by_file kind_of_file file_fault_of
blank_unrefused regions = refl

-- no named file has an entry that these regions refuse
pub given_file : (regions : List Region) (files : List (List ℕ)) (n : ℕ) → region_fault regions files ≡ None → refused_in regions (file_at files n) ≡ None
unfolding region_fault
given_file regions files n none = unsaid (refused_in regions) files 1 (n - 1) none (blank_unrefused regions)

-- what is told of a line is counted
pub event_of_table : (time : ℕ) (naming : Naming) → is_item_counted (table_event time naming) ≡ true
event_of_table time Accepted = event_counted tables_name 1 2 time
event_of_table time Refused = event_counted tables_name 2 3 time
event_of_table time Running = event_counted tables_name 3 3 time
