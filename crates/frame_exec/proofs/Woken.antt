-- The applications behind a frame's wakeups: what the jobs left, and what of it the bench took over.
use Rattle.std.proofs.Common.{◌≡◌, Bool, true, false, ◌&&◌, List, [], ◌∷◌, ◌∙◌, ap, refl, subst, sym}
use Rattle.std.proofs.lemmas.Bool.{and_parts}
use Rattle.bus_pipes.specs.declared.names.Out.{Out}
use Rattle.bus_pipes.specs.declared.names.TheConstants.{TELEMETRY_PIPE_DEPTH}
use Rattle.packet_forms.specs.declared.name.Counter.{Counter}
use Rattle.table_files.specs.Files.{loads_of}
use Rattle.memory_window.specs.Memory.{Memory, regions_of}
use Rattle.memory_window.specs.declared.operations.MemOp.{MemOp}
use Rattle.sc_sequences.specs.State.{IsReady as ScIsReady}
use Rattle.sc_sequences.specs.declared.state.Sc.{Sc}
use Rattle.md_dwell.specs.State.{AllGiven}
use Rattle.md_dwell.specs.declared.state.Md.{Md}
use Rattle.hs_monitors.specs.declared.step.TheConstants.{MOST_ITEMS as hs_most}
use Rattle.lc_watch.specs.declared.step.TheConstants.{MOST_ITEMS as lc_most}
use Rattle.frame_exec.specs.declared.applications.TheConstants.{EVENTS_ROOM}
use Rattle.frame_exec.specs.declared.bench.Bench.{Bench}
use Rattle.frame_exec.specs.declared.applications.Applications.{Applications}
use Rattle.frame_exec.specs.declared.memory.Memory.{Memory as BenchMemory}
use Rattle.crew_board.specs.Seen.{Seen as Crew}
use Rattle.app_suite.specs.declared.left.Left.{Left}
use Rattle.app_suite.specs.declared.lc_slot.LcSlot.{LcSlot}
use Rattle.app_suite.specs.Applications.{lc_setup, lc_stands, lc_gives, lc_reads}
use Rattle.app_suite.specs.Jobs.{jobs_of}
use Rattle.app_suite.specs.Landable.{CanLand}
use Rattle.frame_exec.specs.Standing.{IsReady}
use Rattle.active_tables.specs.Tables.{Loaded, AreGiven}
use Rattle.app_suite.specs.Wakes.{AreSendable, IsWoken, joined, next_of}
use Rattle.frame_exec.specs.Parts.{IsTaken, TakesOver}
use Rattle.frame_exec.specs.Stages.{AreWoken, CanSend, IsSameRun, Steps, loads_in, time_of}
use Rattle.app_suite.proofs.Taking.{state_is, taken_woken, taken_sendable, away_woken, none_sendable}

-- where all six rest, each does
pub six_parts : (a b c d e f : Bool) → (((((a && b) && c) && d) && e) && f) ≡ true → (a ≡ true) × (b ≡ true) × (c ≡ true) × (d ≡ true) × (e ≡ true) × (f ≡ true)
six_parts a b c d e f all =
    let five = and_parts ((((a && b) && c) && d) && e) f all in
    let four = and_parts (((a && b) && c) && d) e five.0 in
    let three = and_parts ((a && b) && c) d four.0 in
    let two = and_parts (a && b) c three.0 in
    let both = and_parts a b two.0 in
    (both.0, both.1, two.1, three.1, four.1, five.1)

-- where none of the six gave an item, nothing was given
pub six_gave_none : (a b c d e f : Bool) (hs cs sc mm md lc : List Out) → (a ≡ true → hs ≡ []) → (b ≡ true → cs ≡ []) → (c ≡ true → sc ≡ []) → (d ≡ true → mm ≡ []) → (e ≡ true → md ≡ []) → (f ≡ true → lc ≡ [])
    → (((((a && b) && c) && d) && e) && f) ≡ true → joined (hs ∷ cs ∷ sc ∷ mm ∷ md ∷ lc ∷ []) ≡ []
six_gave_none a b c d e f hs cs sc mm md lc p q r s t u all =
    let each = six_parts a b c d e f all in
    rw (p each.0, q each.1, r each.2, s each.3, t each.4, u each.5) refl

-- the items of an application that rests
pub rested : {Input State : Type 0} (stands : List Input → State → Type 0) (gives : List Input → Input → List Out) (held : Bool) (input : Input) (old : State) (items : List Out) → items ≡ []
    → IsWoken stands gives held input old old [] → IsWoken stands gives held input old old items
rested stands gives held input old items none woken = record { state = woken.state; given = λ history stood. none ∙ woken.given history stood }

-- what the jobs left but LC's was taken over, and then LC's
pub over_beside : (old new : Applications) (ops : List MemOp) (lc : LcSlot) (crew : Crew Left) → TakesOver old new ops → TakesOver old (record new { lc = lc; crew = crew }) ops
over_beside old new ops lc crew taken = record { told = taken.told; hs = taken.hs; cs = taken.cs; sc = taken.sc; mm = taken.mm; md = taken.md }

-- the applications were woken in a bench that is the same but for the proofs of its facts
pub steps_beside : (counters : List Counter) (old new : Bench) (manned : old.apps.crew.jobs ≡ jobs_of old.wires.bus.watched) (roomy : old.apps.lc.telemetry.room ≡ TELEMETRY_PIPE_DEPTH)
    (away : old.apps.lc.there ≡ false → (old.apps.lc.slot.held ≡ true) × (old.apps.lc.slot.out.items ≡ [])) (there : old.apps.lc.there ≡ old.wires.bus.watched) (told : old.apps.activations.room ≡ EVENTS_ROOM)
    → Steps counters (record old { apps = record old.apps { lc = record old.apps.lc { roomy = roomy; away = away } }; manned = manned; there = there; activations_room = told }) new → Steps counters old new
steps_beside counters old new manned roomy away there told steps = record {
  run = record { lines = steps.run.lines; epoch = steps.run.epoch; number = steps.run.number; failed = steps.run.failed; tables = steps.run.tables };
  told = steps.told;
  woken = steps.woken;
  wires = steps.wires;
  memory = steps.memory;
}

-- what was taken over of LC's job, where LC is there
abbrev TakesLc : Applications → Applications → Type 0
TakesLc old new = IsTaken old 5 (λ left. (new.lc.slot.state.value ≡ next_of left.stays left.lc.value old.lc.slot.state.value) × (new.lc.slot.out.items ≡ left.out.items))

module _ (counters : List Counter) (old middle new : Bench) (woken : AreWoken counters old middle) (taken : TakesOver middle.apps new.apps new.memory.ops.value) (more : IsSameRun middle new) (wires : new.wires ≡ middle.wires) (memory : new.memory.ram ≡ middle.memory.ram)
    (takes : middle.apps.lc.there ≡ true → TakesLc middle.apps new.apps) (away : middle.apps.lc.there ≡ false → new.apps.lc ≡ middle.apps.lc) where
  same_memory : new.memory.ram ≡ old.memory.ram
  same_memory = memory ∙ ap (λ (m : BenchMemory). m.ram) woken.memory

  same_tables : new.tables ≡ old.tables
  same_tables = more.tables ∙ woken.run.tables

  same_there : old.apps.lc.there ≡ middle.apps.lc.there
  same_there = sym (ap (λ (l : LcSlot). l.there) woken.slots.lc)

  lc_woken : (there : Bool) → middle.apps.lc.there ≡ there
      → IsWoken (lc_stands (lc_setup old.tables.set)) (lc_gives (lc_setup old.tables.set)) old.apps.lc.slot.held (lc_reads (time_of old) old.apps.lc.slot.commands.value old.apps.lc.telemetry.items) old.apps.lc.slot.state.value new.apps.lc.slot.state.value new.apps.lc.slot.out.items
  lc_woken true is =
      let lc = takes is in
      taken_woken _ _ _ _ _ _ _ _ _ _ _ _ _ (woken.left.lc (same_there ∙ is) lc.0 lc.1) (ap (λ (l : LcSlot). l.slot.state.value) woken.slots.lc) lc.2.0 lc.2.1 _ refl
  lc_woken false is =
      let lc = away is ∙ woken.slots.lc in
      let none = old.apps.lc.away (same_there ∙ is) in
      away_woken _ _ _ _ _ _ _ none.0 (ap (λ (l : LcSlot). l.slot.state.value) lc) (ap (λ (l : LcSlot). l.slot.out.items) lc ∙ none.1)

  lc_sendable : (there : Bool) → middle.apps.lc.there ≡ there → old.apps.lc.slot.out.items ≡ [] → AreSendable lc_most new.apps.lc.slot.out.items
  lc_sendable true is clear =
      let lc = takes is in
      taken_sendable _ _ _ _ _ _ _ _ _ _ _ _ _ (woken.left.lc (same_there ∙ is) lc.0 lc.1) (ap (λ (l : LcSlot). l.slot.state.value) woken.slots.lc) lc.2.0 lc.2.1
  lc_sendable false is clear = none_sendable _ _ (ap (λ (l : LcSlot). l.slot.out.items) (away is ∙ woken.slots.lc) ∙ clear)

  pub all_step : Steps counters old new
  all_step =
      let slots = woken.slots in
      let run = woken.run in
      record {
        run = record { lines = more.lines ∙ run.lines; epoch = more.epoch ∙ run.epoch; number = more.number ∙ run.number; failed = more.failed ∙ run.failed; tables = more.tables ∙ run.tables };
        told = taken.told ∙ slots.told;
        woken = record {
          hs = λ tables same. taken_woken _ _ _ _ _ _ _ _ _ _ _ _ _ (woken.left.hs taken.hs.0 taken.hs.1) (ap (λ slot. slot.state.value) slots.hs) taken.hs.2.0 taken.hs.2.1 tables (sym same);
          cs = λ tables same. taken_woken _ _ _ _ _ _ _ _ _ _ _ _ _ (woken.left.cs taken.cs.0 taken.cs.1) (ap (λ slot. slot.state.value) slots.cs) taken.cs.2.0 taken.cs.2.1 tables (sym same);
          sc = λ tables same. taken_woken _ _ _ _ _ _ _ _ _ _ _ _ _ (woken.left.sc taken.sc.0 taken.sc.1).0 (ap (λ slot. slot.state.value) slots.sc) taken.sc.2.0 taken.sc.2.1 tables (sym same);
          mm = λ tables. taken_woken _ _ _ _ _ _ _ _ _ _ _ _ _ (woken.left.mm taken.mm.0 taken.mm.1).0 (ap (λ slot. slot.state.value) slots.mm) taken.mm.2.0 taken.mm.2.1 tables tt;
          md = λ tables. taken_woken _ _ _ _ _ _ _ _ _ _ _ _ _ (woken.left.md taken.md.0 taken.md.1).0 (ap (λ slot. slot.state.value) slots.md) taken.md.2.0 taken.md.2.1 tables tt;
          lc = lc_woken middle.apps.lc.there refl;
          operations = taken.mm.2.2 ∙ (woken.left.mm taken.mm.0 taken.mm.1).1.are;
        };
        wires = wires ∙ woken.wires;
        memory = same_memory;
      }

  sendable_hs : AreSendable hs_most new.apps.hs.out.items
  sendable_hs = taken_sendable _ _ _ _ _ _ _ _ _ _ _ _ _ (woken.left.hs taken.hs.0 taken.hs.1) (ap (λ slot. slot.state.value) woken.slots.hs) taken.hs.2.0 taken.hs.2.1

  pub all_can_send : old.apps.lc.slot.out.items ≡ [] → CanSend new
  all_can_send clear =
      let slots = woken.slots in
      let land = (woken.left.mm taken.mm.0 taken.mm.1).1.can_land in
      record {
        apps = record {
          hs = sendable_hs;
          cs = taken_sendable _ _ _ _ _ _ _ _ _ _ _ _ _ (woken.left.cs taken.cs.0 taken.cs.1) (ap (λ slot. slot.state.value) slots.cs) taken.cs.2.0 taken.cs.2.1;
          sc = taken_sendable _ _ _ _ _ _ _ _ _ _ _ _ _ (woken.left.sc taken.sc.0 taken.sc.1).0 (ap (λ slot. slot.state.value) slots.sc) taken.sc.2.0 taken.sc.2.1;
          mm = taken_sendable _ _ _ _ _ _ _ _ _ _ _ _ _ (woken.left.mm taken.mm.0 taken.mm.1).0 (ap (λ slot. slot.state.value) slots.mm) taken.mm.2.0 taken.mm.2.1;
          md = taken_sendable _ _ _ _ _ _ _ _ _ _ _ _ _ (woken.left.md taken.md.0 taken.md.1).0 (ap (λ slot. slot.state.value) slots.md) taken.md.2.0 taken.md.2.1;
          lc = lc_sendable middle.apps.lc.there refl clear;
        };
        operations = subst (λ (t : Loaded). CanLand (loads_of t.files) new.memory.ram new.memory.ops.value) (sym same_tables)
            (subst (λ (m : Memory). CanLand (loads_in old) m new.memory.ops.value) (sym same_memory) (subst (λ (ops : List MemOp). CanLand (loads_in old) old.memory.ram ops) (sym taken.mm.2.2) land));
      }

  pub all_ready : IsReady old → IsReady new
  all_ready ready =
      let slots = woken.slots in
      let sc = (woken.left.sc taken.sc.0 taken.sc.1) in
      let md = (woken.left.md taken.md.0 taken.md.1) in
      record {
        sc = subst (λ (t : Loaded). ScIsReady t.set.sc new.apps.sc.state.value) (sym same_tables)
            (subst (λ (s : Sc). ScIsReady old.tables.set.sc s) (sym (state_is _ _ _ _ _ _ _ _ _ _ _ _ _ sc.0 (ap (λ slot. slot.state.value) slots.sc) taken.sc.2.0 taken.sc.2.1)) sc.1);
        md = subst (λ (m : Memory). AllGiven (regions_of m.areas) new.apps.md.state.value) (sym same_memory)
            (subst (λ (s : Md). AllGiven (regions_of old.memory.ram.areas) s) (sym (state_is _ _ _ _ _ _ _ _ _ _ _ _ _ md.0 (ap (λ slot. slot.state.value) slots.md) taken.md.2.0 taken.md.2.1)) md.1);
        given = subst (λ (m : Memory). AreGiven (regions_of m.areas) new.tables) (sym same_memory) (subst (AreGiven (regions_of old.memory.ram.areas)) (sym same_tables) ready.given);
      }
