-- A frame of no items on a bench that is idle.
use Rattle.std.proofs.Common.{◌≡◌, ℕ, ◌+◌, Bool, true, false, not, List, [], ◌∷◌, ◌++◌, ◌∙◌, ap, refl, subst, sym, append-nil, Box, Global}
use Rattle.std.specs.List.{flat_map, list_any}
use Rattle.bus_pipes.specs.Pipes.{Pipes, empty_pipes, emptied_pipes}
use Rattle.bus_pipes.specs.Delivery.{after_offers, drops_from}
use Rattle.bus_pipes.specs.declared.names.Out.{Out}
use Rattle.bus_pipes.proofs.Deliveries.{after_offers_none, drops_none}
use Rattle.table_files.specs.Files.{loads_of}
use Rattle.memory_window.proofs.BankLanding.{nothing-landed}
use Rattle.packet_log.specs.Sent.{makes}
use Rattle.packet_log.specs.Standing.{Stands as LogStands}
use Rattle.scenario.specs.FrameLists.{Frame, no_items}
use Rattle.frame_wires.specs.Sending.{is_reset, offered, sent_of}
use Rattle.frame_wires.proofs.Stamping.{sent_none}
use Rattle.app_suite.specs.Applications.{lc_setup, cs_stands, sc_stands, mm_stands, md_stands, lc_stands, cs_gives, mm_gives, md_gives, lc_gives, cs_reads, mm_reads, md_reads, lc_reads}
use Rattle.cs_slices.specs.declared.state.Cs.{Cs}
use Rattle.sc_sequences.specs.declared.state.Sc.{Sc}
use Rattle.mm_core.specs.declared.state.Mm.{Mm}
use Rattle.md_dwell.specs.declared.state.Md.{Md}
use Rattle.lc_watch.specs.declared.state.Lc.{Lc}
use Rattle.app_suite.specs.Wakes.{IsWoken, history_after, joined, unless}
use Rattle.frame_runs.specs.Runs.{Setup, State, active_in, time_at, image_at, hs_input_at, cs_input_at, sc_input_at, mm_input_at, md_input_at, lc_input_at, table_events, items_at, operations_at, left_by, sent_at, resets_at, offers_at, activated_at, after_wakeups, after_frame, run_of, frame_lines, behind}
use Rattle.frame_runs.proofs.Frames.{run_more, lines_are}
use Rattle.frame_exec.specs.declared.applications.Applications.{Applications}
use Rattle.frame_exec.specs.Idling.{AreIdle, HasPassed, HsPasses, IsIdle, IsNoneDue, Rests}
use Rattle.frame_exec.specs.Standing.{AppsStand, Has, IsReady}
use Rattle.frame_exec.specs.Following.{Follows}
use Rattle.frame_exec.specs.Stages.{time_of}
use Rattle.frame_exec.specs.declared.bench.Bench.{Bench}
use Rattle.frame_exec.specs.declared.wires.Wires.{Wires}
use Rattle.frame_exec.specs.declared.memory.Memory.{Memory as BenchMemory}
use Rattle.memory_window.specs.Memory.{regions_of}
use Rattle.sc_sequences.specs.State.{IsReady as ScIsReady}
use Rattle.md_dwell.specs.State.{AllGiven}
use Rattle.frame_exec.specs.declared.applications.TheConstants.{EVENTS_ROOM}
use Rattle.active_tables.specs.Tables.{Loaded, AreGiven}
use Rattle.app_suite.specs.Jobs.{jobs_of}

-- six lists of items, of which each is empty, behind what was told, which is nothing
none_joined : (hs cs sc mm md lc : List Out) → hs ≡ [] → cs ≡ [] → sc ≡ [] → mm ≡ [] → md ≡ [] → lc ≡ [] → joined ([] ∷ hs ∷ cs ∷ sc ∷ mm ∷ md ∷ lc ∷ []) ≡ []
none_joined hs cs sc mm md lc a b c d e f = rw (a, b, c, d, e, f) refl

-- an application that rests, held or not
rests_held : {Input State : Type 0} (stands : List Input → State → Type 0) (gives : List Input → Input → List Out) (held : Bool) (input : Input) (state : State) (history : List Input)
    → IsWoken stands gives false input state state [] → stands history state → stands (history_after held history input) state
rests_held stands gives true input state history rests stood = stood
rests_held stands gives false input state history rests stood = rests.state history stood

gives_held : {Input State : Type 0} (stands : List Input → State → Type 0) (gives : List Input → Input → List Out) (held : Bool) (input : Input) (state : State) (history : List Input)
    → IsWoken stands gives false input state state [] → stands history state → unless held (gives history input) ≡ []
gives_held stands gives true input state history rests stood = refl
gives_held stands gives false input state history rests stood = sym (rests.given history stood)

-- A run has come to where its pipes hold nothing, the applications but HS rest, and HS gives nothing.
module _ (setup : Setup) (s : State) (apps next : Applications) (watched : Bool) (stand : AppsStand apps s) (idle : AreIdle apps) (passed : HasPassed apps next) (due : IsNoneDue (time_at setup s) apps) where
  abbrev t : State
  t = record s { pipes = empty_pipes watched }

  none_given : joined (items_at setup t no_items) ≡ []
  unfolding items_at table_events hs_input_at cs_input_at sc_input_at mm_input_at md_input_at lc_input_at
  none_given =
      let time = time_at setup s in
      none_joined _ _ _ _ _ _ (sym ((passed.hs (active_in s) time).given s.hs stand.hs)) (sym ((idle.cs (active_in s) time (image_at t no_items)).given s.cs stand.cs)) (sym ((due (active_in s)).given s.sc stand.sc))
      (sym ((idle.mm s.tables (loads_of setup.files) time (image_at t no_items)).given s.mm stand.mm)) (sym ((idle.md (active_in s) time (image_at t no_items)).given s.md stand.md))
      (gives_held (lc_stands (lc_setup s.tables)) (lc_gives (lc_setup s.tables)) (not watched) (lc_reads time [] []) apps.lc.slot.state.value s.lc (idle.lc (lc_setup s.tables) time) stand.lc)

  no_reset : resets_at setup t no_items ≡ false
  unfolding resets_at
  no_reset = ap (list_any is_reset) none_given

  pub none_sent : sent_at setup t no_items ≡ []
  unfolding sent_at
  none_sent = ap (sent_of s.made) none_given ∙ sent_none s.made

  none_offered : offers_at setup t no_items ≡ []
  unfolding offers_at
  none_offered = ap (λ (b : Bool). offered b [] (sent_at setup t no_items)) no_reset ∙ ap (offered false []) none_sent

  all_left : left_by [] (empty_pipes watched) ≡ empty_pipes watched
  unfolding left_by
  all_left = refl

  pub none_dropped : drops_from (left_by [] t.pipes) (offers_at setup t no_items) ≡ []
  none_dropped = ap (drops_from (left_by [] t.pipes)) none_offered ∙ drops_none (left_by [] t.pipes)

  pub still_empty : (after_wakeups setup t no_items).pipes ≡ t.pipes
  unfolding after_wakeups
  still_empty = ap (after_offers (left_by [] t.pipes)) none_offered ∙ after_offers_none (left_by [] t.pipes) ∙ all_left

  pub counted_one : (after_wakeups setup t no_items).number ≡ s.number + 1
  unfolding after_wakeups
  counted_one = refl

  pub tables_stay : (after_wakeups setup t no_items).tables ≡ s.tables
  unfolding after_wakeups
  tables_stay = refl

  pub none_made : (after_wakeups setup t no_items).made ≡ s.made
  unfolding after_wakeups
  none_made = ap (λ (items : List Out). s.made ++ flat_map makes items) none_given ∙ append-nil s.made

  pub same_memory : (after_wakeups setup t no_items).memory ≡ s.memory
  unfolding after_wakeups operations_at mm_input_at image_at
  same_memory = nothing-landed (loads_of setup.files) (operations_at setup t no_items) s.memory (idle.operations (loads_of setup.files) (time_at setup s) s.memory)

  pub stand_next : AppsStand next (after_wakeups setup t no_items)
  unfolding after_wakeups hs_input_at cs_input_at sc_input_at mm_input_at md_input_at lc_input_at
  stand_next =
      let time = time_at setup s in
      let end = after_wakeups setup t no_items in
      record {
        hs = (passed.hs (active_in s) time).state s.hs stand.hs;
        cs = subst (λ (state : Box Cs Global). cs_stands (active_in end) end.cs state.value) (sym passed.cs) ((idle.cs (active_in s) time (image_at t no_items)).state s.cs stand.cs);
        sc = subst (λ (state : Box Sc Global). sc_stands (active_in end) end.sc state.value) (sym passed.sc) ((due (active_in s)).state s.sc stand.sc);
        mm = subst (λ (state : Box Mm Global). mm_stands end.tables end.mm state.value) (sym passed.mm) ((idle.mm s.tables (loads_of setup.files) time (image_at t no_items)).state s.mm stand.mm);
        md = subst (λ (state : Box Md Global). md_stands (active_in end) end.md state.value) (sym passed.md) ((idle.md (active_in s) time (image_at t no_items)).state s.md stand.md);
        lc = subst (λ (state : Box Lc Global). lc_stands (lc_setup end.tables) end.lc state.value) (sym passed.lc)
            (rests_held (lc_stands (lc_setup s.tables)) (lc_gives (lc_setup s.tables)) (not watched) (lc_reads time [] []) apps.lc.slot.state.value s.lc (idle.lc (lc_setup s.tables) time) stand.lc);
      }

  pub only_wakeups : after_frame setup t no_items ≡ after_wakeups setup t no_items
  unfolding after_frame activated_at
  only_wakeups = ap (λ (resets : Bool). behind resets setup (after_wakeups setup t no_items)) no_reset

-- A bench was idle behind these frames, and a frame of no items was counted.
module _ (b : Bench) (next : Applications) (setup : Setup) (frames : List Frame) (epoch : b.epoch ≡ setup.epoch) (has : Has b (run_of setup frames)) (idle : IsIdle b.wires.bus b.counts b.apps) (passed : HasPassed b.apps next) (due : IsNoneDue (time_of b) b.apps) where
  abbrev s : State
  s = run_of setup frames

  abbrev emptied : State
  emptied = record s { pipes = empty_pipes s.pipes.watched }

  empty : s.pipes ≡ empty_pipes s.pipes.watched
  empty = sym has.pipes ∙ idle.none ∙ ap emptied_pipes has.pipes

  same : s ≡ emptied
  same = ap (λ (p : Pipes). record s { pipes = p }) empty

  due_now : IsNoneDue (time_at setup s) b.apps
  due_now = subst (λ (n : ℕ). IsNoneDue n b.apps) (ap (λ (e : ℕ). e + b.number) epoch ∙ ap (λ (n : ℕ). setup.epoch + n) has.number) due

  has_emptied : (end : Bench) → end.number ≡ b.number + 1 → end.tables ≡ b.tables → end.apps ≡ next → end.wires ≡ b.wires → end.memory ≡ b.memory → Has end (after_wakeups setup emptied no_items)
  has_emptied end number tables apps wires memory = record {
    number = number ∙ ap (λ (n : ℕ). n + 1) has.number ∙ sym (counted_one setup s b.apps next s.pipes.watched has.apps idle.apps passed due_now);
    tables = ap (λ (t : Loaded). t.set) tables ∙ has.tables ∙ sym (tables_stay setup s b.apps next s.pipes.watched has.apps idle.apps passed due_now);
    apps = subst (λ (a : Applications). AppsStand a (after_wakeups setup emptied no_items)) (sym apps) (stand_next setup s b.apps next s.pipes.watched has.apps idle.apps passed due_now);
    pipes = ap (λ (w : Wires). w.bus) wires ∙ has.pipes ∙ empty ∙ sym (still_empty setup s b.apps next s.pipes.watched has.apps idle.apps passed due_now);
    made = subst (λ (w : Wires). LogStands (after_wakeups setup emptied no_items).made w.log) (sym wires)
        (subst (λ (made : List (List ℕ)). LogStands made b.wires.log) (sym (none_made setup s b.apps next s.pipes.watched has.apps idle.apps passed due_now)) has.made);
    memory = ap (λ (m : BenchMemory). m.ram) memory ∙ has.memory ∙ sym (same_memory setup s b.apps next s.pipes.watched has.apps idle.apps passed due_now);
  }

  pub has_counted : (end : Bench) → end.number ≡ b.number + 1 → end.tables ≡ b.tables → end.apps ≡ next → end.wires ≡ b.wires → end.memory ≡ b.memory → Has end (run_of setup (frames ++ no_items ∷ []))
  has_counted end number tables apps wires memory =
      subst (Has end) (sym (run_more setup frames no_items))
      (subst (λ (u : State). Has end (after_frame setup u no_items)) (sym same)
      (subst (Has end) (sym (only_wakeups setup s b.apps next s.pipes.watched has.apps idle.apps passed due_now)) (has_emptied end number tables apps wires memory)))

  -- it has no lines
  pub no_lines : [] ≡ frame_lines setup frames no_items
  unfolding activated_at
  no_lines =
      lines_are setup frames no_items s.number [] [] refl (subst (λ (u : State). [] ≡ sent_at setup u no_items) (sym same) (sym (none_sent setup s b.apps next s.pipes.watched has.apps idle.apps passed due_now)))
      (subst (λ (u : State). [] ≡ drops_from (left_by [] u.pipes) (offers_at setup u no_items)) (sym same) (sym (none_dropped setup s b.apps next s.pipes.watched has.apps idle.apps passed due_now)))

-- what is noted of a bench doesn't change for what it stands
pub follows_noted : (b : Bench) (idle counts : Bool) (jobs : b.apps.crew.jobs ≡ jobs_of b.wires.bus.watched) (there : b.apps.lc.there ≡ b.wires.bus.watched) (told : b.apps.activations.room ≡ EVENTS_ROOM) (setup : Setup) (earlier later : List Frame)
    → (idle ≡ true → IsIdle b.wires.bus counts b.apps) → Follows b setup earlier later → Follows (record b { idle = idle; counts = counts; manned = jobs; there = there; activations_room = told }) setup earlier later
follows_noted b idle counts jobs there told setup earlier later noted follows = record {
  epoch = follows.epoch;
  files = follows.files;
  well = follows.well;
  has = record { number = follows.has.number; tables = follows.has.tables; apps = follows.has.apps; pipes = follows.has.pipes; made = follows.has.made; memory = follows.has.memory };
  ready = record { sc = follows.ready.sc; md = follows.ready.md; given = follows.ready.given };
  idle = noted;
  notes = follows.notes;
}

-- the others are idle still
pub idle_next : (pipes : Pipes) (counts : Bool) (old new : Applications) → HasPassed old new → (counts ≡ false → new ≡ old) → IsIdle pipes counts old → IsIdle pipes counts new
idle_next pipes counts old new passed same idle = record {
  none = idle.none;
  apps = record {
    cs = λ tables time memory. subst (λ (state : Box Cs Global). Rests (cs_stands tables) (cs_gives tables) (cs_reads time [] memory) state.value) (sym passed.cs) (idle.apps.cs tables time memory);
    mm = λ tables loads time memory. subst (λ (state : Box Mm Global). Rests (mm_stands tables) (mm_gives tables) (mm_reads loads time [] memory) state.value) (sym passed.mm) (idle.apps.mm tables loads time memory);
    operations = idle.apps.operations;
    md = λ tables time memory. subst (λ (state : Box Md Global). Rests (md_stands tables) (md_gives tables) (md_reads time [] memory) state.value) (sym passed.md) (idle.apps.md tables time memory);
    lc = λ setup time. subst (λ (state : Box Lc Global). Rests (lc_stands setup) (lc_gives setup) (lc_reads time [] []) state.value) (sym passed.lc) (idle.apps.lc setup time);
  };
  hs = λ none. subst (λ (a : Applications). HsPasses a.hs.state.value a.hs.state.value) (sym (same none)) (idle.hs none);
}

-- and those that have to be ready are
pub ready_next : (b end : Bench) → end.tables ≡ b.tables → end.memory ≡ b.memory → HasPassed b.apps end.apps → IsReady b → IsReady end
ready_next b end tables memory passed ready = record {
  sc = subst (λ (t : Loaded). ScIsReady t.set.sc end.apps.sc.state.value) (sym tables) (subst (λ (state : Box Sc Global). ScIsReady b.tables.set.sc state.value) (sym passed.sc) ready.sc);
  md = subst (λ (m : BenchMemory). AllGiven (regions_of m.ram.areas) end.apps.md.state.value) (sym memory) (subst (λ (state : Box Md Global). AllGiven (regions_of b.memory.ram.areas) state.value) (sym passed.md) ready.md);
  given = subst (λ (m : BenchMemory). AreGiven (regions_of m.ram.areas) end.tables) (sym memory) (subst (AreGiven (regions_of b.memory.ram.areas)) (sym tables) ready.given);
}
