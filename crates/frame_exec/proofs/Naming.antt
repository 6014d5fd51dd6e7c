-- A bench whose frame named files, so that their tables are active now.
use Rattle.std.proofs.Common.{◌≡◌, ◌≢◌, ℕ, ◌+◌, Bool, true, false, if◌then◌else◌, List, [], ◌∷◌, ◌++◌, length, Option, Some, None, Box, Global, refl, sym, ◌∙◌, ap, subst, append_assoc, arith}
use Rattle.std.specs.Prelude.{fold, map}
use Rattle.std.proofs.lemmas.List.{map-append}
use Rattle.std.proofs.lemmas.List.Sums.{fold-append}
use Rattle.std.proofs.lemmas.List.{length-append}
use Rattle.std.specs.List.{AllPass}
use Rattle.std.proofs.lemmas.List.Elements.{All-nil, All-cons, All-append}
use Rattle.bus_pipes.specs.Held.{Held}
use Rattle.bus_pipes.specs.Counted.{is_item_counted}
use Rattle.packet_log.specs.Standing.{Stands as LogStands}
use Rattle.bus_pipes.specs.declared.names.Out.{Out}
use Rattle.memory_window.specs.Memory.{regions_of}
use Rattle.memory_window.specs.declared.regions.Region.{Region}
use Rattle.table_files.specs.Files.{file_at, kind_at}
use Rattle.table_files.specs.Headers.{payload_of_file}
use Rattle.table_files.specs.Kinds.{IsKnown}
use Rattle.table_files.specs.declared.kinds.TableKind.{TableKind}
use Rattle.cs_slices.specs.State.{Stands as CsStands}
use Rattle.sc_sequences.specs.Histories.{Beginning, ScEntry, sequences_of}
use Rattle.sc_sequences.specs.State.{Stands as ScStands, IsReady as ScIsReady, sequence_place, runs_in, activation_of as sc_activation}
use Rattle.sc_sequences.specs.declared.state.Sc.{Sc}
use Rattle.mm_core.specs.declared.state.Mm.{Mm}
use Rattle.md_dwell.specs.State.{Stands as MdStands, AllGiven}
use Rattle.md_dwell.specs.Given.{TablesGiven}
use Rattle.hs_monitors.specs.State.{Stands as HsStands}
use Rattle.lc_watch.specs.Histories.{Setup as LcSetup}
use Rattle.lc_watch.specs.declared.state.Lc.{Lc}
use Rattle.frame_exec.specs.declared.applications.TheConstants.{EVENTS_ROOM}
use Rattle.frame_exec.specs.declared.bench.Bench.{Bench}
use Rattle.frame_exec.specs.declared.applications.Applications.{Applications}
use Rattle.frame_exec.specs.declared.wires.Wires.{Wires}
use Rattle.frame_exec.specs.declared.memory.Memory.{Memory as BenchMemory}
use Rattle.app_suite.specs.declared.activations.Naming.{Naming}
use Rattle.app_suite.specs.declared.activations.Naming.TheVariants.{Accepted, Refused, Running}
use Rattle.active_tables.specs.Tables.{TableSet, Loaded, AreGiven, with_table, with_file}
use Rattle.app_suite.specs.Activations.{can_activate, naming_of, TakesTable, hs_activated, cs_activated, sc_activated, md_activated, table_event}
use Rattle.app_suite.specs.Applications.{cs_tables, sc_begun, hs_setup, lc_setup, mm_stands, lc_stands}
use Rattle.frame_runs.specs.Runs.{Setup, State, time_at, active_in, runs_at, naming_at, with_active, after_line, after_naming, after_activation, activated_at, table_events}
use Rattle.app_suite.specs.Jobs.{jobs_of}
use Rattle.frame_exec.specs.Standing.{Has, IsReady}
use Rattle.frame_exec.specs.Parts.{KeepsApps}
use Rattle.frame_exec.specs.Stages.{GoesOn, NamesFile, Activates, time_of}
use Rattle.scenario.specs.FrameLists.{Frame}
use Rattle.frame_runs.proofs.Frames.{activations_keep, folded_number}
use Rattle.frame_exec.proofs.Frames.{apps_kept}
use Rattle.active_tables.proofs.GivenTables.{file_given}
use Rattle.app_suite.proofs.Activating.{hs_follow, hs_goes, cs_follow, sc_follow, sc_goes, limits_stay, runs_kept, event_of_table, with_kind, given_file}

-- what a bench keeps where a table becomes active
pub record KeepsRest (old new : Bench) : Type 0 where
  pub sc : new.apps.sc.state ≡ old.apps.sc.state
  pub mm : new.apps.mm.state ≡ old.apps.mm.state
  pub lc : new.apps.lc.slot.state ≡ old.apps.lc.slot.state
  pub wires : new.wires ≡ old.wires
  pub memory : new.memory ≡ old.memory

-- no sequence of this kind runs in a state of SC
abbrev Rests : TableKind → Sc → Type 0
Rests kind sc = (begin : Beginning) (history : List ScEntry) → ScStands begin history sc → runs_in (sequences_of begin history).all (sequence_place kind) ≡ false

-- A table of this kind became active.
module _ (old new : Bench) (kind : TableKind) (payload : List ℕ) (known : IsKnown kind) (can : can_activate kind ≡ true) (rests : Rests kind old.apps.sc.state.value) (tables : new.tables.set ≡ with_table old.tables.set kind payload)
    (takes : TakesTable kind new.tables.set old.apps.hs.state.value new.apps.hs.state.value old.apps.cs.state.value new.apps.cs.state.value old.apps.md.state.value new.apps.md.state.value) (keeps : KeepsRest old new) where
  pub has_active : (s : State) → new.number ≡ old.number → Has old s → Has new (with_active s kind (with_table s.tables kind payload))
  has_active s number has =
      let same : new.tables.set ≡ with_table s.tables kind payload = tables ∙ ap (λ (t : TableSet). with_table t kind payload) has.tables in
      let setup = hs_setup (active_in s) in
      let first = cs_tables s.first in
      let begin = sc_begun (active_in s) in
      record {
        number = number ∙ has.number;
        tables = same;
        apps = record {
          hs = (
            hs_follow setup s.hs s.tables kind payload can has.apps.hs.0,
            subst (λ (t : TableSet). HsStands setup (s.hs ++ hs_activated kind t.hs) new.apps.hs.state.value) same
                (hs_goes setup s.hs kind new.tables.set.hs old.apps.hs.state.value new.apps.hs.state.value takes.given takes.other has.apps.hs.1),
          );
          cs = (
            cs_follow first s.cs s.tables kind payload has.apps.cs.0,
            subst (λ (t : TableSet). CsStands first (s.cs ++ cs_activated kind t) new.apps.cs.state.value) same (takes.segments first s.cs has.apps.cs.1),
          );
          sc = (
            sc_follow begin s.sc s.tables kind payload known has.apps.sc.0,
            subst (λ (state : Box Sc Global). ScStands begin (s.sc ++ sc_activated kind (with_table s.tables kind payload).sc) state.value) (sym keeps.sc)
                (sc_goes begin s.sc kind (with_table s.tables kind payload).sc old.apps.sc.state.value (rests begin s.sc has.apps.sc.1) has.apps.sc.1),
          );
          mm = subst (λ (state : Box Mm Global). mm_stands s.tables s.mm state.value) (sym keeps.mm) has.apps.mm;
          md = subst (λ (t : TableSet). MdStands s.first.dwells (s.md ++ md_activated kind t.dwells) new.apps.md.state.value) same (takes.dwells s.first.dwells s.md has.apps.md);
          lc = subst (λ (limits : LcSetup). lc_stands limits s.lc new.apps.lc.slot.state.value) (sym (limits_stay s.tables kind payload can))
              (subst (λ (state : Box Lc Global). lc_stands (lc_setup s.tables) s.lc state.value) (sym keeps.lc) has.apps.lc);
        };
        pipes = ap (λ (w : Wires). w.bus) keeps.wires ∙ has.pipes;
        made = subst (λ (w : Wires). LogStands s.made w.log) (sym keeps.wires) has.made;
        memory = ap (λ (m : BenchMemory). m.ram) keeps.memory ∙ has.memory;
      }

  pub ready_active : ((regions : List Region) → TablesGiven regions new.tables.set.dwells → AllGiven regions old.apps.md.state.value → AllGiven regions new.apps.md.state.value) → AreGiven (regions_of old.memory.ram.areas) new.tables
      → IsReady old → IsReady new
  ready_active dwells given ready =
      let regions : regions_of new.memory.ram.areas ≡ regions_of old.memory.ram.areas = ap (λ (m : BenchMemory). regions_of m.ram.areas) keeps.memory in
      let sequences = (with_table old.tables.set kind payload).sc in
      let stood = ready.sc in
      let sc : ScIsReady sequences old.apps.sc.state.value = record {
        begin = stood.begin;
        history = stood.history ++ sc_activated kind sequences;
        in_force = sc_follow stood.begin stood.history old.tables.set kind payload known stood.in_force;
        stands = sc_goes stood.begin stood.history kind sequences old.apps.sc.state.value (rests stood.begin stood.history stood.stands) stood.stands;
      } in
      record {
        sc = subst (λ (t : TableSet). ScIsReady t.sc new.apps.sc.state.value) (sym tables) (subst (λ (state : Box Sc Global). ScIsReady sequences state.value) (sym keeps.sc) sc);
        md = subst (λ (rs : List Region). AllGiven rs new.apps.md.state.value) (sym regions) (dwells (regions_of old.memory.ram.areas) given.set.dwells ready.md);
        given = subst (λ (rs : List Region). AreGiven rs new.tables) (sym regions) given;
      }

-- memory gives what the tables read, once one of a named file is active
pub given_next : (regions : List Region) (old new : Loaded) (n : ℕ) → new ≡ record old { set = with_file old.set (file_at old.files n) } → AreGiven regions old → AreGiven regions new
given_next regions old new n is given =
    subst (AreGiven regions) (sym is) (record { well = given.well; set = file_given regions old.set given.set (file_at old.files n) (given_file regions old.files n given.named); named = given.named })

-- a line named no table
pub named_none : (b : Bench) (n : ℕ) → kind_at b.tables.files n ≡ None → NamesFile n b b
named_none b n is = record {
  goes = record { lines = refl; epoch = refl; number = refl; failed = refl; files = refl };
  memory = refl;
  told = refl;
  has = λ setup s files has.
      subst (λ (named : List (List ℕ)). Has b (after_naming s (file_at named n) (kind_at named n))) files
      (subst (λ (k : Option TableKind). Has b (after_naming s (file_at b.tables.files n) k)) (sym is) has);
}

-- a line named a file whose table doesn't become active
pub named_other : (b : Bench) (n : ℕ) (kind : TableKind) (naming : Naming) → kind_at b.tables.files n ≡ Some kind → naming ≢ Accepted
    → ((begin : Beginning) (history : List ScEntry) → ScStands begin history b.apps.sc.state.value → naming ≡ naming_of (runs_in (sequences_of begin history).all (sequence_place kind)) kind) → NamesFile n b b
named_other b n kind naming is other by = record {
  goes = record { lines = refl; epoch = refl; number = refl; failed = refl; files = refl };
  memory = refl;
  told = refl;
  has = λ setup s files has.
      subst (λ (named : List (List ℕ)). Has b (after_naming s (file_at named n) (kind_at named n))) files
      (subst (λ (k : Option TableKind). Has b (after_naming s (file_at b.tables.files n) k)) (sym is)
      (subst (λ (m : Naming). Has b (after_line m s kind (with_file s.tables (file_at b.tables.files n)))) (by (sc_begun (active_in s)) s.sc has.apps.sc.1) (unchanged naming s (with_file s.tables (file_at b.tables.files n)) other has)));
}
  where
    unchanged : (m : Naming) (s : State) (tables : TableSet) → m ≢ Accepted → Has b s → Has b (after_line m s kind tables)
    unchanged Accepted s tables other has = absurd (other refl)
    unchanged Refused s tables other has = has
    unchanged Running s tables other has = has

-- a table that becomes active can, and its sequence doesn't run
pub accepted_parts : (can runs : Bool) → (if can then (if runs then Running else Accepted) else Refused) ≡ Accepted → (can ≡ true) × (runs ≡ false)
accepted_parts true true is = cc
accepted_parts true false is = (refl, refl)
accepted_parts false runs is = cc

-- what becomes of a line, by whether the sequence runs in the bench
pub naming_is : (setup : Setup) (s : State) (b : Bench) (n : ℕ) (kind : TableKind) (naming : Naming) {runs : Bool} → b.tables.files ≡ setup.files → kind_at b.tables.files n ≡ Some kind → naming ≡ naming_of runs kind → runs ≡ runs_at s kind
    → naming ≡ naming_at s (kind_at setup.files n)
naming_is setup s b n kind naming files is by runs =
    by ∙ ap (λ (r : Bool). naming_of r kind) runs ∙ sym (ap (λ (k : Option TableKind). naming_at s k) (sym (ap (λ (fs : List (List ℕ)). kind_at fs n) files) ∙ is))

-- a line named a file whose table is active now
pub named_active : (old new : Bench) (n : ℕ) (kind : TableKind) → kind_at old.tables.files n ≡ Some kind → IsKnown kind → can_activate kind ≡ true → Rests kind old.apps.sc.state.value
    → new.tables ≡ record old.tables { set = with_file old.tables.set (file_at old.tables.files n) }
    → TakesTable kind new.tables.set old.apps.hs.state.value new.apps.hs.state.value old.apps.cs.state.value new.apps.cs.state.value old.apps.md.state.value new.apps.md.state.value → KeepsRest old new → GoesOn old new → new.apps.activations ≡ old.apps.activations → NamesFile n old new
named_active old new n kind is known can rests tables takes keeps goes told = record {
  goes = goes;
  memory = keeps.memory;
  told = told;
  has = λ setup s files has.
      let file = file_at old.tables.files n in
      let here : new.tables.set ≡ with_table old.tables.set kind (payload_of_file file) = ap (λ (t : Loaded). t.set) tables ∙ with_kind old.tables.set old.tables.files n kind is in
      let active : Has new (with_active s kind (with_file s.tables file)) =
      subst (λ (t : TableSet). Has new (with_active s kind t)) (sym (with_kind s.tables old.tables.files n kind is)) (has_active old new kind (payload_of_file file) known can rests here takes keeps s goes.number has) in
      let accepted : naming_of (runs_at s kind) kind ≡ Accepted = ap (λ (runs : Bool). naming_of runs kind) (rests (sc_begun (active_in s)) s.sc has.apps.sc.1) ∙ ap (λ (b : Bool). if b then Accepted else Refused) can in
      subst (λ (named : List (List ℕ)). Has new (after_naming s (file_at named n) (kind_at named n))) files
      (subst (λ (k : Option TableKind). Has new (after_naming s file k)) (sym is) (subst (λ (m : Naming). Has new (after_line m s kind (with_file s.tables file))) (sym accepted) active));
}

-- what was told of activations is no part of what a run has come to
has_told : (b : Bench) (apps : Applications) (jobs : apps.crew.jobs ≡ jobs_of b.wires.bus.watched) (there : apps.lc.there ≡ b.wires.bus.watched) (room : apps.activations.room ≡ EVENTS_ROOM) → KeepsApps b.apps apps → (s : State) → Has b s → Has (record b { apps = apps; manned = jobs; there = there; activations_room = room }) s
has_told b apps jobs there room kept s has = record {
  number = has.number;
  tables = has.tables;
  apps = apps_kept b.apps apps s kept has.apps;
  pipes = has.pipes;
  made = has.made;
  memory = has.memory;
}

-- which sequences run is the same behind lines that name files, and so is what becomes of further ones
runs_stay : (setup : Setup) (s : State) (numbers : List ℕ) (kind : TableKind) → runs_at (fold (after_activation setup) s numbers) kind ≡ runs_at s kind
runs_stay setup s numbers kind = activations_keep (λ (t : State). runs_at t kind) setup s numbers (λ t k tables. runs_kept (sc_begun (active_in t)) t.sc (sc_activation k tables.sc) (sequence_place kind))

naming_stays : (setup : Setup) (s : State) (numbers : List ℕ) (kind : Option TableKind) → naming_at (fold (after_activation setup) s numbers) kind ≡ naming_at s kind
naming_stays setup s numbers None = refl
naming_stays setup s numbers (Some kind) = ap (λ (runs : Bool). naming_of runs kind) (runs_stay setup s numbers kind)

pub events_stay : (setup : Setup) (s : State) (numbers more : List ℕ) → table_events setup (fold (after_activation setup) s numbers) more ≡ table_events setup s more
unfolding table_events
events_stay setup s numbers [] = refl
events_stay setup s numbers (n ∷ more) =
    let time : time_at setup (fold (after_activation setup) s numbers) ≡ time_at setup s = ap (λ (k : ℕ). setup.epoch + k) (folded_number setup s numbers) in
    ap (λ (t : ℕ). table_event t (naming_at (fold (after_activation setup) s numbers) (kind_at setup.files n)) ∷ table_events setup (fold (after_activation setup) s numbers) more) time
    ∙ ap (λ (m : Naming). table_event (time_at setup s) m ∷ table_events setup (fold (after_activation setup) s numbers) more) (naming_stays setup s numbers (kind_at setup.files n))
    ∙ ap (λ (items : List Out). table_event (time_at setup s) (naming_at s (kind_at setup.files n)) ∷ items) (events_stay setup s numbers more)

-- no file is named, and what was told before is forgotten
pub forgets : (b : Bench) (apps : Applications) (jobs : apps.crew.jobs ≡ jobs_of b.wires.bus.watched) (there : apps.lc.there ≡ b.wires.bus.watched) (room : apps.activations.room ≡ EVENTS_ROOM) → apps.activations.items ≡ [] → KeepsApps b.apps apps → Activates [] [] b (record b { apps = apps; manned = jobs; there = there; activations_room = room })
unfolding table_events
forgets b apps jobs there room none kept = record {
  goes = record { lines = refl; epoch = refl; number = refl; failed = refl; files = refl };
  memory = refl;
  many = ap (λ (items : List Out). length items) none;
  counted = λ counted. subst (AllPass is_item_counted) (sym none) counted;
  events = λ setup s epoch files has. none;
  has = λ setup s files has. has_told b apps jobs there room kept s has;
}

-- no file is named yet
pub activates_none : (b : Bench) → b.apps.activations.items ≡ [] → Activates [] [] b b
unfolding table_events
activates_none b none = record {
  goes = record { lines = refl; epoch = refl; number = refl; failed = refl; files = refl };
  memory = refl;
  many = ap (λ (items : List Out). length items) none;
  counted = λ counted. subst (AllPass is_item_counted) (sym none) counted;
  events = λ setup s epoch files has. none;
  has = λ setup s files has. has;
}

-- one file more is named
pub activates_more : (old middle new : Bench) (numbers more : List ℕ) (told between : List Out) → between ≡ middle.apps.activations.items → Activates numbers told old middle → Activates more between middle new → Activates (numbers ++ more) told old new
unfolding table_events
activates_more old middle new numbers more told between same first second =
    let goes = first.goes in
    record {
      goes = record {
        lines = second.goes.lines ∙ goes.lines;
        epoch = second.goes.epoch ∙ goes.epoch;
        number = second.goes.number ∙ goes.number;
        failed = second.goes.failed ∙ goes.failed;
        files = second.goes.files ∙ goes.files;
      };
      memory = second.memory ∙ first.memory;
      many = second.many ∙ ap (λ (items : List Out). length items + length more) same ∙ ap (λ (n : ℕ). n + length more) first.many ∙ omega arith ∙ ap (λ (n : ℕ). length told + n) (sym (length-append numbers more));
      counted = λ counted. second.counted (subst (AllPass is_item_counted) (sym same) (first.counted counted));
      events = λ setup s epoch files has.
          let event = λ (n : ℕ). table_event (time_at setup s) (naming_at s (kind_at setup.files n)) in
          second.events setup (fold (after_activation setup) s numbers) (goes.epoch ∙ epoch) (goes.files ∙ files) (first.has setup s files has)
          ∙ ap (λ (items : List Out). between ++ items) (events_stay setup s numbers more)
          ∙ ap (λ (items : List Out). items ++ map event more) (same ∙ first.events setup s epoch files has)
          ∙ append_assoc told (map event numbers) (map event more)
          ∙ ap (λ (items : List Out). told ++ items) (sym (map-append event numbers more));
      has = λ setup s files has.
          subst (Has new) (sym (fold-append (after_activation setup) s numbers more)) (second.has setup (fold (after_activation setup) s numbers) (goes.files ∙ files) (first.has setup s files has));
    }

-- what was told of one file
pub activates_one : (old middle : Bench) (n : ℕ) (naming : Naming) (time : ℕ) (apps : Applications) (jobs : apps.crew.jobs ≡ jobs_of middle.wires.bus.watched) (there : apps.lc.there ≡ middle.wires.bus.watched) (room : apps.activations.room ≡ EVENTS_ROOM)
    → ((setup : Setup) (s : State) → old.tables.files ≡ setup.files → Has old s → naming ≡ naming_at s (kind_at setup.files n)) → time ≡ time_of old → NamesFile n old middle
    → apps.activations.items ≡ middle.apps.activations.items ++ table_event time naming ∷ [] → KeepsApps middle.apps apps → Activates (n ∷ []) old.apps.activations.items old (record middle { apps = apps; manned = jobs; there = there; activations_room = room })
unfolding table_events
activates_one old middle n naming time apps jobs there room is at names told kept =
    let told_here : apps.activations.items ≡ old.apps.activations.items ++ table_event time naming ∷ [] = told ∙ ap (λ (held : Held Out). held.items ++ table_event time naming ∷ []) names.told in
    record {
      goes = record { lines = names.goes.lines; epoch = names.goes.epoch; number = names.goes.number; failed = names.goes.failed; files = names.goes.files };
      memory = names.memory;
      many = ap (λ (items : List Out). length items) told_here ∙ length-append old.apps.activations.items (table_event time naming ∷ []);
      counted = λ counted. subst (AllPass is_item_counted) (sym told_here) (All-append (λ (item : Out). is_item_counted item ≡ true) old.apps.activations.items (table_event time naming ∷ []) counted (All-cons (λ (item : Out). is_item_counted item ≡ true) (table_event time naming) [] (event_of_table time naming) (All-nil (λ (item : Out). is_item_counted item ≡ true))));
      events = λ setup s epoch files has.
          told_here ∙ ap (λ (m : Naming). old.apps.activations.items ++ table_event time m ∷ []) (is setup s files has)
          ∙ ap (λ (t : ℕ). old.apps.activations.items ++ table_event t (naming_at s (kind_at setup.files n)) ∷ []) (at ∙ ap (λ (e : ℕ). e + old.number) epoch ∙ ap (λ (k : ℕ). setup.epoch + k) has.number);
      has = λ setup s files has. has_told middle apps jobs there room kept (after_activation setup s n) (names.has setup s files has);
    }

-- a bench that has the state behind the files that a frame names
pub activated_has : (b : Bench) (setup : Setup) (s : State) (frame : Frame) (numbers : List ℕ) → numbers ≡ frame.activations → Has b (fold (after_activation setup) s numbers) → Has b (activated_at setup s frame)
unfolding activated_at
activated_has b setup s frame numbers is has = subst (λ (ns : List ℕ). Has b (fold (after_activation setup) s ns)) is has

-- what was told of them
pub events_at : (setup : Setup) (s : State) (frame : Frame) (items : List Out) (numbers : List ℕ) → numbers ≡ frame.activations → items ≡ table_events setup s numbers → items ≡ table_events setup (activated_at setup s frame) frame.activations
unfolding activated_at
events_at setup s frame items numbers is told = told ∙ ap (table_events setup s) is ∙ sym (events_stay setup s frame.activations frame.activations)
