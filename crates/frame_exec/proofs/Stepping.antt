-- The applications of the bench, woken in a frame.
use Rattle.std.proofs.Common.{◌≡◌, Bool, not, ℕ, ◌+◌, List, ◌∷◌, ◌++◌, ◌∙◌, ap, subst, sym, refl}
use Rattle.std.specs.List.{flat_map, list_any}
use Rattle.bus_pipes.specs.Delivery.{after_offers, drops_from}
use Rattle.bus_pipes.specs.declared.names.Out.{Out}
use Rattle.packet_forms.specs.declared.name.Counter.{Counter}
use Rattle.packet_log.specs.Sent.{makes}
use Rattle.packet_log.specs.Standing.{Stands as LogStands}
use Rattle.frame_wires.specs.Sending.{is_reset, offered, sent_of}
use Rattle.bus_pipes.specs.Pipes.{Pipes}
use Rattle.table_files.specs.Files.{loads_of}
use Rattle.memory_window.specs.Memory.{Memory}
use Rattle.mm_core.specs.Step.{mm_operations}
use Rattle.scenario.specs.declared.frame.App.{App}
use Rattle.scenario.specs.declared.frame.App.TheVariants as names
use Rattle.scenario.specs.declared.frame.Upset.{Upset}
use Rattle.scenario.specs.FrameLists.{Frame}
use Rattle.frame_exec.specs.declared.bench.Bench.{Bench}
use Rattle.frame_exec.specs.declared.applications.Applications.{Applications}
use Rattle.frame_exec.specs.declared.wires.Wires.{Wires}
use Rattle.frame_exec.specs.declared.memory.Memory.{Memory as BenchMemory}
use Rattle.active_tables.specs.Tables.{TableSet, Loaded}
use Rattle.app_suite.specs.Applications.{cs_tables, lc_setup, hs_stands, cs_stands, sc_stands, mm_stands, md_stands, lc_stands, hs_gives, cs_gives, sc_gives, mm_gives, md_gives, lc_gives, hs_reads, cs_reads, sc_reads, mm_reads, md_reads, lc_reads}
use Rattle.app_suite.specs.Wakes.{HasTaken, IsWoken, unless, joined}
use Rattle.frame_runs.specs.Runs.{Setup, State, table_events, is_held, is_away, active_in, time_at, image_at, hs_input_at, cs_input_at, sc_input_at, mm_input_at, md_input_at, lc_input_at, items_at, operations_at, left_by, sent_at, resets_at, offers_at, after_wakeups}
use Rattle.frame_exec.specs.Standing.{AppsStand}
use Rattle.frame_exec.specs.Parts.{items_in, given_in}
use Rattle.frame_exec.specs.Stages.{Takes, Enters, Steps, Sends, RunsIn, loads_in, time_of}
use Rattle.frame_exec.proofs.Frames.{apps_kept}
use Rattle.frame_exec.proofs.Waking.{woken_state, woken_items, woken_beside, seen_by, moved, of_both}

-- A bench that has what a run has come to but for the frame's upsets, which are written; then what the applications took, and then that
-- they were woken.
module _ (setup : Setup) (s : State) (frame : Frame) (start took stepped : Bench) (epoch : start.epoch ≡ setup.epoch) (files : start.tables.files ≡ setup.files) (number : start.number ≡ s.number) (tables : start.tables.set ≡ s.tables) (pipes : start.wires.bus ≡ s.pipes)
    (image : start.memory.ram ≡ image_at s frame) (apps : AppsStand start.apps s) (takes : Takes frame.held start took) (steps : Steps frame.counters took stepped) where
  same_tables : took.tables.set ≡ s.tables
  same_tables = ap (λ (t : Loaded). t.set) takes.run.tables ∙ tables

  same_time : time_of took ≡ time_at setup s
  same_time = ap (λ (e : ℕ). e + took.number) (takes.run.epoch ∙ epoch) ∙ ap (λ (n : ℕ). setup.epoch + n) (takes.run.number ∙ number)

  same_loads : loads_in took ≡ loads_of setup.files
  same_loads = ap (λ (t : Loaded). loads_of t.files) takes.run.tables ∙ ap loads_of files

  same_image : took.memory.ram ≡ image_at s frame
  same_image = takes.memory ∙ image

  stand : AppsStand took.apps s
  stand = apps_kept start.apps took.apps s takes.apps apps

  hs_took : HasTaken (is_held names.Hs frame) s.pipes.hs took.apps.hs.held took.apps.hs.commands.value took.apps.hs.out.items
  hs_took = subst (λ (p : Pipes). HasTaken (is_held names.Hs frame) p.hs took.apps.hs.held took.apps.hs.commands.value took.apps.hs.out.items) pipes takes.takes.hs

  cs_took : HasTaken (is_held names.Cs frame) s.pipes.cs took.apps.cs.held took.apps.cs.commands.value took.apps.cs.out.items
  cs_took = subst (λ (p : Pipes). HasTaken (is_held names.Cs frame) p.cs took.apps.cs.held took.apps.cs.commands.value took.apps.cs.out.items) pipes takes.takes.cs

  sc_took : HasTaken (is_held names.Sc frame) s.pipes.sc took.apps.sc.held took.apps.sc.commands.value took.apps.sc.out.items
  sc_took = subst (λ (p : Pipes). HasTaken (is_held names.Sc frame) p.sc took.apps.sc.held took.apps.sc.commands.value took.apps.sc.out.items) pipes takes.takes.sc

  mm_took : HasTaken (is_held names.Mm frame) s.pipes.mm took.apps.mm.held took.apps.mm.commands.value took.apps.mm.out.items
  mm_took = subst (λ (p : Pipes). HasTaken (is_held names.Mm frame) p.mm took.apps.mm.held took.apps.mm.commands.value took.apps.mm.out.items) pipes takes.takes.mm

  md_took : HasTaken (is_held names.Md frame) s.pipes.md took.apps.md.held took.apps.md.commands.value took.apps.md.out.items
  md_took = subst (λ (p : Pipes). HasTaken (is_held names.Md frame) p.md took.apps.md.held took.apps.md.commands.value took.apps.md.out.items) pipes takes.takes.md

  lc_took : HasTaken (is_away s) s.pipes.lc took.apps.lc.slot.held took.apps.lc.slot.commands.value took.apps.lc.slot.out.items
  lc_took = subst (λ (p : Pipes). HasTaken (not p.watched) p.lc took.apps.lc.slot.held took.apps.lc.slot.commands.value took.apps.lc.slot.out.items) pipes takes.takes.lc

  hs_woken : IsWoken (hs_stands (active_in s)) (hs_gives (active_in s)) took.apps.hs.held (hs_reads (time_at setup s) took.apps.hs.commands.value s.pipes.hs_ev frame.counters) took.apps.hs.state.value stepped.apps.hs.state.value stepped.apps.hs.out.items
  hs_woken =
      seen_by (hs_stands (active_in s)) (hs_gives (active_in s)) (λ events. hs_reads (time_at setup s) took.apps.hs.commands.value events frame.counters) (is_held names.Hs frame) took.apps.hs.held took.apps.events s.pipes.hs_ev took.apps.hs.state.value
      stepped.apps.hs.state.value stepped.apps.hs.out.items hs_took.same (λ free. takes.takes.events free ∙ ap (λ (p : Pipes). p.hs_ev) pipes)
      (subst (λ (n : ℕ). IsWoken (hs_stands (active_in s)) (hs_gives (active_in s)) took.apps.hs.held (hs_reads n took.apps.hs.commands.value took.apps.events frame.counters) took.apps.hs.state.value stepped.apps.hs.state.value stepped.apps.hs.out.items) same_time
      (steps.woken.hs (active_in s) (ap (λ (t : TableSet). t.hs) (sym same_tables))))

  cs_woken : IsWoken (cs_stands (active_in s)) (cs_gives (active_in s)) took.apps.cs.held (cs_reads (time_at setup s) took.apps.cs.commands.value (image_at s frame)) took.apps.cs.state.value stepped.apps.cs.state.value stepped.apps.cs.out.items
  cs_woken =
      of_both (λ (n : ℕ) (m : Memory). IsWoken (cs_stands (active_in s)) (cs_gives (active_in s)) took.apps.cs.held (cs_reads n took.apps.cs.commands.value m) took.apps.cs.state.value stepped.apps.cs.state.value stepped.apps.cs.out.items) _ _ _ _ same_time same_image
      (steps.woken.cs (active_in s) (ap cs_tables (sym same_tables)))

  sc_woken : IsWoken (sc_stands (active_in s)) (sc_gives (active_in s)) took.apps.sc.held (sc_reads (time_at setup s) took.apps.sc.commands.value) took.apps.sc.state.value stepped.apps.sc.state.value stepped.apps.sc.out.items
  sc_woken =
      subst (λ (n : ℕ). IsWoken (sc_stands (active_in s)) (sc_gives (active_in s)) took.apps.sc.held (sc_reads n took.apps.sc.commands.value) took.apps.sc.state.value stepped.apps.sc.state.value stepped.apps.sc.out.items) same_time
      (steps.woken.sc (active_in s) (ap (λ (t : TableSet). t.sc) (sym same_tables)))

  mm_woken : IsWoken (mm_stands s.tables) (mm_gives s.tables) took.apps.mm.held (mm_reads (loads_of setup.files) (time_at setup s) took.apps.mm.commands.value (image_at s frame)) took.apps.mm.state.value stepped.apps.mm.state.value stepped.apps.mm.out.items
  mm_woken =
      subst (λ (loads : List (ℕ × List ℕ)). IsWoken (mm_stands s.tables) (mm_gives s.tables) took.apps.mm.held (mm_reads loads (time_at setup s) took.apps.mm.commands.value (image_at s frame)) took.apps.mm.state.value stepped.apps.mm.state.value stepped.apps.mm.out.items) same_loads
      (moved (λ (t : TableSet) (n : ℕ) (m : Memory). IsWoken (mm_stands t) (mm_gives t) took.apps.mm.held (mm_reads (loads_in took) n took.apps.mm.commands.value m) took.apps.mm.state.value stepped.apps.mm.state.value stepped.apps.mm.out.items)
      took.tables.set s.tables (time_of took) (time_at setup s) took.memory.ram (image_at s frame) same_tables same_time same_image (steps.woken.mm took.tables.set))

  md_woken : IsWoken (md_stands (active_in s)) (md_gives (active_in s)) took.apps.md.held (md_reads (time_at setup s) took.apps.md.commands.value (image_at s frame)) took.apps.md.state.value stepped.apps.md.state.value stepped.apps.md.out.items
  md_woken = moved (λ (t : TableSet) (n : ℕ) (m : Memory). IsWoken (md_stands (active_in s)) (md_gives (active_in s)) took.apps.md.held (md_reads n took.apps.md.commands.value m) took.apps.md.state.value stepped.apps.md.state.value stepped.apps.md.out.items)
      took.tables.set s.tables (time_of took) (time_at setup s) took.memory.ram (image_at s frame) same_tables same_time same_image (steps.woken.md (active_in s))

  lc_woken : IsWoken (lc_stands (lc_setup s.tables)) (lc_gives (lc_setup s.tables)) took.apps.lc.slot.held (lc_reads (time_at setup s) took.apps.lc.slot.commands.value s.pipes.lc_tlm) took.apps.lc.slot.state.value stepped.apps.lc.slot.state.value stepped.apps.lc.slot.out.items
  lc_woken =
      seen_by (lc_stands (lc_setup s.tables)) (lc_gives (lc_setup s.tables)) (λ telemetry. lc_reads (time_at setup s) took.apps.lc.slot.commands.value telemetry) (is_away s) took.apps.lc.slot.held took.apps.lc.telemetry.items s.pipes.lc_tlm took.apps.lc.slot.state.value
      stepped.apps.lc.slot.state.value stepped.apps.lc.slot.out.items lc_took.same (λ free. takes.takes.telemetry (ap (λ (p : Pipes). not p.watched) pipes ∙ free) ∙ ap (λ (p : Pipes). p.lc_tlm) pipes)
      (of_both (λ (t : TableSet) (n : ℕ). IsWoken (lc_stands (lc_setup t)) (lc_gives (lc_setup t)) took.apps.lc.slot.held (lc_reads n took.apps.lc.slot.commands.value took.apps.lc.telemetry.items) took.apps.lc.slot.state.value stepped.apps.lc.slot.state.value stepped.apps.lc.slot.out.items) _ _ _ _ same_tables same_time
      steps.woken.lc)

  pub apps_after : AppsStand stepped.apps (after_wakeups setup s frame)
  unfolding after_wakeups hs_input_at cs_input_at sc_input_at mm_input_at md_input_at lc_input_at
  apps_after = record {
    hs = woken_state (hs_stands (active_in s)) (hs_gives (active_in s)) (λ commands. hs_reads (time_at setup s) commands s.pipes.hs_ev frame.counters) _ took.apps.hs.held s.pipes.hs took.apps.hs.commands.value took.apps.hs.out.items stepped.apps.hs.out.items took.apps.hs.state.value
        stepped.apps.hs.state.value s.hs hs_took hs_woken stand.hs;
    cs = woken_state (cs_stands (active_in s)) (cs_gives (active_in s)) (λ commands. cs_reads (time_at setup s) commands (image_at s frame)) _ took.apps.cs.held s.pipes.cs took.apps.cs.commands.value took.apps.cs.out.items stepped.apps.cs.out.items took.apps.cs.state.value
        stepped.apps.cs.state.value s.cs cs_took cs_woken stand.cs;
    sc = woken_state (sc_stands (active_in s)) (sc_gives (active_in s)) (λ commands. sc_reads (time_at setup s) commands) _ took.apps.sc.held s.pipes.sc took.apps.sc.commands.value took.apps.sc.out.items stepped.apps.sc.out.items took.apps.sc.state.value
        stepped.apps.sc.state.value s.sc sc_took sc_woken stand.sc;
    mm = woken_state (mm_stands s.tables) (mm_gives s.tables) (λ commands. mm_reads (loads_of setup.files) (time_at setup s) commands (image_at s frame)) _ took.apps.mm.held s.pipes.mm took.apps.mm.commands.value took.apps.mm.out.items stepped.apps.mm.out.items took.apps.mm.state.value
        stepped.apps.mm.state.value s.mm mm_took mm_woken stand.mm;
    md = woken_state (md_stands (active_in s)) (md_gives (active_in s)) (λ commands. md_reads (time_at setup s) commands (image_at s frame)) _ took.apps.md.held s.pipes.md took.apps.md.commands.value took.apps.md.out.items stepped.apps.md.out.items took.apps.md.state.value
        stepped.apps.md.state.value s.md md_took md_woken stand.md;
    lc = woken_state (lc_stands (lc_setup s.tables)) (lc_gives (lc_setup s.tables)) (λ commands. lc_reads (time_at setup s) commands s.pipes.lc_tlm) _ took.apps.lc.slot.held s.pipes.lc took.apps.lc.slot.commands.value took.apps.lc.slot.out.items stepped.apps.lc.slot.out.items
        took.apps.lc.slot.state.value stepped.apps.lc.slot.state.value s.lc lc_took lc_woken stand.lc;
  }

  pub items_after : table_events setup s frame.activations ∷ given_in stepped.apps ≡ items_at setup s frame
  unfolding items_at hs_input_at cs_input_at sc_input_at mm_input_at md_input_at lc_input_at
  items_after =
      let hs = woken_items (hs_stands (active_in s)) (hs_gives (active_in s)) (λ commands. hs_reads (time_at setup s) commands s.pipes.hs_ev frame.counters) _ took.apps.hs.held s.pipes.hs took.apps.hs.commands.value took.apps.hs.out.items stepped.apps.hs.out.items
      took.apps.hs.state.value stepped.apps.hs.state.value s.hs hs_took hs_woken stand.hs in
      let cs = woken_items (cs_stands (active_in s)) (cs_gives (active_in s)) (λ commands. cs_reads (time_at setup s) commands (image_at s frame)) _ took.apps.cs.held s.pipes.cs took.apps.cs.commands.value took.apps.cs.out.items stepped.apps.cs.out.items
      took.apps.cs.state.value stepped.apps.cs.state.value s.cs cs_took cs_woken stand.cs in
      let sc = woken_items (sc_stands (active_in s)) (sc_gives (active_in s)) (λ commands. sc_reads (time_at setup s) commands) _ took.apps.sc.held s.pipes.sc took.apps.sc.commands.value took.apps.sc.out.items stepped.apps.sc.out.items
      took.apps.sc.state.value stepped.apps.sc.state.value s.sc sc_took sc_woken stand.sc in
      let mm = woken_items (mm_stands s.tables) (mm_gives s.tables) (λ commands. mm_reads (loads_of setup.files) (time_at setup s) commands (image_at s frame)) _ took.apps.mm.held s.pipes.mm took.apps.mm.commands.value took.apps.mm.out.items stepped.apps.mm.out.items
      took.apps.mm.state.value stepped.apps.mm.state.value s.mm mm_took mm_woken stand.mm in
      let md = woken_items (md_stands (active_in s)) (md_gives (active_in s)) (λ commands. md_reads (time_at setup s) commands (image_at s frame)) _ took.apps.md.held s.pipes.md took.apps.md.commands.value took.apps.md.out.items stepped.apps.md.out.items
      took.apps.md.state.value stepped.apps.md.state.value s.md md_took md_woken stand.md in
      let lc = woken_items (lc_stands (lc_setup s.tables)) (lc_gives (lc_setup s.tables)) (λ commands. lc_reads (time_at setup s) commands s.pipes.lc_tlm) _ took.apps.lc.slot.held s.pipes.lc took.apps.lc.slot.commands.value took.apps.lc.slot.out.items stepped.apps.lc.slot.out.items
      took.apps.lc.slot.state.value stepped.apps.lc.slot.state.value s.lc lc_took lc_woken stand.lc in
      rw (hs, cs, sc, mm, md, lc) refl

  pub operations_after : stepped.memory.ops.value ≡ operations_at setup s frame
  unfolding operations_at mm_input_at
  operations_after =
      woken_beside (λ commands. mm_operations (mm_reads (loads_of setup.files) (time_at setup s) commands (image_at s frame))) _ took.apps.mm.held s.pipes.mm took.apps.mm.commands.value took.apps.mm.out.items stepped.memory.ops.value mm_took
      (subst (λ (loads : List (ℕ × List ℕ)). stepped.memory.ops.value ≡ unless took.apps.mm.held (mm_operations (mm_reads loads (time_at setup s) took.apps.mm.commands.value (image_at s frame)))) same_loads
      (moved (λ (t : TableSet) (n : ℕ) (m : Memory). stepped.memory.ops.value ≡ unless took.apps.mm.held (mm_operations (mm_reads (loads_in took) n took.apps.mm.commands.value m))) took.tables.set s.tables (time_of took) (time_at setup s) took.memory.ram (image_at s frame) same_tables
      same_time same_image steps.woken.operations))

  -- what the pipes hold then
  left : stepped.wires.bus ≡ left_by frame.held s.pipes
  left = ap (λ (w : Wires). w.bus) steps.wires ∙ takes.pipes ∙ ap (left_by frame.held) pipes

  -- and once the items were sent, behind what was told of the frame's activations, what of the frame remains to be written and to land
  pub ran : (end : Bench) → stepped.apps.activations.items ≡ table_events setup s frame.activations → LogStands s.made start.wires.log → Sends frame.sends stepped end → RunsIn setup s frame end
  unfolding sent_at resets_at offers_at
  ran end events stood sends =
      let items : joined (items_in stepped.apps) ≡ joined (items_at setup s frame) =
      ap (λ (told : List Out). joined (told ∷ given_in stepped.apps)) events ∙ ap (λ (lists : List (List Out)). joined lists) items_after in
      let log : LogStands s.made stepped.wires.log = subst (LogStands s.made) (sym (ap (λ (w : Wires). w.log) steps.wires ∙ takes.log)) stood in
      let sent : joined (items_in end.apps) ≡ sent_of s.made (joined (items_at setup s frame)) = sends.sent s.made log ∙ ap (sent_of s.made) items in
      let resets : end.resets ≡ resets_at setup s frame = sends.resets ∙ ap (list_any is_reset) items in
      let offers : offered end.resets frame.sends (joined (items_in end.apps)) ≡ offers_at setup s frame =
      ap (λ (b : Bool). offered b frame.sends (joined (items_in end.apps))) resets ∙ ap (offered (resets_at setup s frame) frame.sends) sent in
      record {
        tables = ap (λ (t : Loaded). t.set) (sends.run.tables ∙ steps.run.tables) ∙ same_tables;
        apps = apps_kept stepped.apps end.apps (after_wakeups setup s frame) sends.apps apps_after;
        sent = sent;
        resets = resets;
        drops = sends.drops ∙ ap (λ (p : Pipes). drops_from p (offered end.resets frame.sends (joined (items_in end.apps)))) left ∙ ap (drops_from (left_by frame.held s.pipes)) offers;
        pipes = sends.pipes ∙ ap (λ (p : Pipes). after_offers p (offered end.resets frame.sends (joined (items_in end.apps)))) left ∙ ap (after_offers (left_by frame.held s.pipes)) offers;
        made = subst (λ (items : List Out). LogStands (s.made ++ flat_map makes items) end.wires.log) items (sends.made s.made log);
        operations = ap (λ (m : BenchMemory). m.ops.value) sends.memory ∙ operations_after;
        memory = ap (λ (m : BenchMemory). m.ram) sends.memory ∙ steps.memory ∙ same_image;
      }

-- what was told of activations stays until the applications were woken
pub told_still : (upsets : List Upset) (held : List App) (counters : List Counter) (named took stepped : Bench) → Enters upsets held named took → Steps counters took stepped → stepped.apps.activations ≡ named.apps.activations
told_still upsets held counters named took stepped enters steps = steps.told ∙ enters.takes.takes.told ∙ ap (λ (a : Applications). a.activations) enters.writes.apps
