-- A bench at one more frame of a run.
use Rattle.std.proofs.Common.{◌≡◌, ℕ, ◌+◌, ◌<◌, List, [], ◌∷◌, ◌++◌, sym, ◌∙◌, ap, subst, arith, true, false, Bool, All, Box, Global}
use Rattle.bus_pipes.specs.Pipes.{Pipes, empty_pipes, emptied_pipes}
use Rattle.bus_pipes.specs.declared.names.Out.{Out}
use Rattle.table_files.specs.Files.{loads_of}
use Rattle.memory_window.specs.Regions.{is_mapped}
use Rattle.memory_window.specs.Memory.{Memory, regions_of, start_memory}
use Rattle.memory_window.specs.declared.regions.Region.{Region}
use Rattle.memory_window.specs.declared.operations.MemOp.{MemOp}
use Rattle.memory_window.specs.Landing.{land}
use Rattle.memory_window.proofs.Areas.{regions-changed, regions-cut}
use Rattle.packet_log.specs.Blocks.{empty_block}
use Rattle.packet_log.specs.Standing.{Stands as LogStands}
use Rattle.scenario.specs.declared.frame.Upset.{Upset}
use Rattle.scenario.specs.FrameLists.{Frame}
use Rattle.frame_exec.specs.declared.bench.Bench.{Bench}
use Rattle.frame_exec.specs.declared.applications.Applications.{Applications}
use Rattle.frame_exec.specs.declared.wires.Wires.{Wires}
use Rattle.frame_exec.specs.declared.memory.Memory.{Memory as BenchMemory}
use Rattle.hs_monitors.specs.Histories.{setup_of}
use Rattle.hs_monitors.specs.Step.{resets_made, resets_maximum}
use Rattle.hs_monitors.specs.declared.state.Hs.{Hs}
use Rattle.mm_core.specs.declared.state.Mm.{Mm}
use Rattle.sc_sequences.specs.Histories.{begun_at}
use Rattle.sc_sequences.specs.State.{IsReady as ScIsReady}
use Rattle.sc_sequences.specs.declared.state.Sc.{Sc}
use Rattle.sc_sequences.proofs.Loaded.{tables_begun as sc_begun}
use Rattle.cs_slices.specs.declared.state.Cs.{Cs}
use Rattle.cs_slices.proofs.Histories.{tables_begun as cs_begun}
use Rattle.md_dwell.specs.declared.state.Md.{Md}
use Rattle.md_dwell.specs.State.{AllGiven}
use Rattle.lc_watch.specs.declared.state.Lc.{Lc}
use Rattle.active_tables.specs.Tables.{TableSet, Loaded, AreGiven, tables_of, lc_named}
use Rattle.app_suite.specs.Applications.{cs_tables, hs_setup, lc_setup, hs_stands, cs_stands, sc_stands, mm_stands, md_stands, lc_stands}
use Rattle.app_suite.proofs.Health.{tables_begun as hs_begun}
use Rattle.frame_runs.specs.Runs.{Setup, State, time_at, active_in, beginning, activated_at, after_wakeups, after_frame, run_of, operations_at, behind_reset, behind}
use Rattle.frame_exec.specs.Standing.{AppsStand, Has, IsReady, IsNoted, Stands, CanRun}
use Rattle.app_suite.specs.Landable.{CanLand}
use Rattle.app_suite.specs.Wakes.{joined}
use Rattle.frame_exec.specs.Parts.{HistoriesBegin, KeepsApps, items_in}
use Rattle.frame_exec.specs.Stages.{RunsIn, IsSameFrame, Lands, StartsAnew, HasGiven, loads_in}
use Rattle.frame_runs.proofs.Frames.{run_more, activated_number, run_number, run_regions}

-- the states of the applications stand for their histories, where they were kept
pub apps_kept : (before after : Applications) (s : State) → KeepsApps before after → AppsStand before s → AppsStand after s
apps_kept before after s kept stand = record {
  hs = subst (λ (state : Box Hs Global). hs_stands (active_in s) s.hs state.value) (sym kept.hs) stand.hs;
  cs = subst (λ (state : Box Cs Global). cs_stands (active_in s) s.cs state.value) (sym kept.cs) stand.cs;
  sc = subst (λ (state : Box Sc Global). sc_stands (active_in s) s.sc state.value) (sym kept.sc) stand.sc;
  mm = subst (λ (state : Box Mm Global). mm_stands s.tables s.mm state.value) (sym kept.mm) stand.mm;
  md = subst (λ (state : Box Md Global). md_stands (active_in s) s.md state.value) (sym kept.md) stand.md;
  lc = subst (λ (state : Box Lc Global). lc_stands (lc_setup s.tables) s.lc state.value) (sym kept.lc) stand.lc;
}

-- they were, where all of the applications was
pub keeps_all : (old new : Applications) → new ≡ old → KeepsApps old new
keeps_all old new same = record {
  hs = ap (λ (a : Applications). a.hs.state) same;
  cs = ap (λ (a : Applications). a.cs.state) same;
  sc = ap (λ (a : Applications). a.sc.state) same;
  mm = ap (λ (a : Applications). a.mm.state) same;
  md = ap (λ (a : Applications). a.md.state) same;
  lc = ap (λ (a : Applications). a.lc.slot.state) same;
}

-- the applications can be woken, where their states, the tables and the regions were kept
pub ready_by : (before b : Bench) → regions_of b.memory.ram.areas ≡ regions_of before.memory.ram.areas → b.tables ≡ before.tables → KeepsApps before.apps b.apps → IsReady before → IsReady b
ready_by before b same tables kept ready = record {
  sc = subst (λ (t : Loaded). ScIsReady t.set.sc b.apps.sc.state.value) (sym tables) (subst (λ (state : Box Sc Global). ScIsReady before.tables.set.sc state.value) (sym kept.sc) ready.sc);
  md = subst (λ (regions : List Region). AllGiven regions b.apps.md.state.value) (sym same) (subst (λ (state : Box Md Global). AllGiven (regions_of before.memory.ram.areas) state.value) (sym kept.md) ready.md);
  given = subst (λ (regions : List Region). AreGiven regions b.tables) (sym same) (subst (AreGiven (regions_of before.memory.ram.areas)) (sym tables) ready.given);
}

-- the bench has what the run has come to after the wakeups of a frame
pub has_after : (before b : Bench) (setup : Setup) (s : State) (frame : Frame) → KeepsApps before.apps b.apps → b.wires ≡ before.wires → b.memory.ram ≡ land (loads_of setup.files) before.memory.ops.value before.memory.ram
    → b.number ≡ s.number + 1 → b.tables.set ≡ s.tables → RunsIn setup s frame before → Has b (after_wakeups setup s frame)
unfolding after_wakeups
has_after before b setup s frame kept wires memory number tables ran = record {
  number = number;
  tables = tables;
  apps = apps_kept before.apps b.apps (after_wakeups setup s frame) kept ran.apps;
  pipes = ap (λ (w : Wires). w.bus) wires ∙ ran.pipes;
  made = subst (LogStands _) (sym (ap (λ (w : Wires). w.log) wires)) ran.made;
  memory = memory ∙ ap (λ (xs : List MemOp). land (loads_of setup.files) xs before.memory.ram) ran.operations ∙ ap (λ (m : Memory). land (loads_of setup.files) (operations_at setup s frame) m) ran.memory;
}

-- A frame was run after these frames, its lines were given away, and then its operations landed.
module _ (before middle b : Bench) (setup : Setup) (frames : List Frame) (frame : Frame) (same : IsSameFrame before middle) (lands : Lands middle b) where
  kept : KeepsApps before.apps b.apps
  kept = keeps_all before.apps b.apps (lands.apps ∙ same.apps)

  landed : b.memory.ram ≡ land (loads_in before) before.memory.ops.value before.memory.ram
  landed =
      lands.memory ∙ ap (λ (t : Loaded). land (loads_of t.files) middle.memory.ops.value middle.memory.ram) same.tables ∙ ap (λ (m : BenchMemory). land (loads_in before) m.ops.value m.ram) same.memory

  tables_same : b.tables ≡ before.tables
  tables_same = lands.tables ∙ same.tables

  has_landed : before.tables.files ≡ setup.files → before.number ≡ (run_of setup frames).number → RunsIn setup (activated_at setup (run_of setup frames) frame) frame before
      → Has b (after_wakeups setup (activated_at setup (run_of setup frames) frame) frame)
  has_landed files number ran =
      (has_after before b setup (activated_at setup (run_of setup frames) frame) frame kept (lands.wires ∙ same.wires) (landed ∙ ap (λ (fs : List (List ℕ)). land (loads_of fs) before.memory.ops.value before.memory.ram) files) (lands.number ∙ ap (λ (n : ℕ). n + 1) (same.number ∙ number ∙ sym (activated_number setup (run_of setup frames) frame))) (ap (λ (t : Loaded). t.set) tables_same ∙ ran.tables) ran)

  -- and then a processor reset took effect, where one was asked for
  pub has_next : (end : Bench) → StartsAnew b end → before.epoch ≡ setup.epoch → before.tables.files ≡ setup.files → before.number ≡ (run_of setup frames).number
      → RunsIn setup (activated_at setup (run_of setup frames) frame) frame before → Has end (run_of setup (frames ++ frame ∷ []))
  unfolding after_frame
  has_next end anew epoch files number ran =
      let s = after_wakeups setup (activated_at setup (run_of setup frames) frame) frame in
      subst (Has end) (sym (run_more setup frames frame))
      (subst (λ (resets : Bool). Has end (behind resets setup s)) (lands.resets ∙ same.resets ∙ ran.resets)
      (anew.has setup s (lands.epoch ∙ same.epoch ∙ epoch) (ap (λ (t : Loaded). t.files) tables_same ∙ files) (has_landed files number ran)))

  pub ready_next : IsReady before → IsReady b
  ready_next ready = ready_by before b (ap (λ (m : Memory). regions_of m.areas) landed ∙ regions-changed _ before.memory.ram.areas) tables_same kept ready

-- what the frame gave stays once its operations landed and a processor reset took effect
pub has_given : (before middle b end : Bench) (setup : Setup) (frames : List Frame) (frame : Frame) → IsSameFrame before middle → Lands middle b → StartsAnew b end
    → RunsIn setup (activated_at setup (run_of setup frames) frame) frame before → HasGiven end setup frames frame
has_given before middle b end setup frames frame same lands anew ran = record {
  items = ap (λ (lists : List (List Out)). joined lists) (anew.items ∙ ap (λ (a : Applications). items_in a) (lands.apps ∙ same.apps)) ∙ ran.sent;
  resets = anew.resets ∙ lands.resets ∙ same.resets ∙ ran.resets;
}

-- what can be landed on the frame's image can be once its lines were given away
pub can_land_still : (before middle : Bench) → IsSameFrame before middle → CanLand (loads_in before) before.memory.ram before.memory.ops.value → CanLand (loads_in middle) middle.memory.ram middle.memory.ops.value
can_land_still before middle same can =
    subst (λ (t : Loaded). CanLand (loads_of t.files) middle.memory.ram middle.memory.ops.value) (sym same.tables)
    (subst (λ (m : BenchMemory). CanLand (loads_in before) m.ram m.ops.value) (sym same.memory) can)

-- a bench whose histories begin: with this number of frames, at this time of SC, and with these resets of HS
pub has_begun : (b : Bench) (setup : Setup) (number began resets limit : ℕ) (pipes : Pipes) (made : List (List ℕ)) (memory : Memory) → b.number ≡ number → b.tables.set ≡ tables_of setup.files
    → HistoriesBegin b.tables.set began resets limit b.apps → b.wires.bus ≡ pipes → LogStands made b.wires.log → b.memory.ram ≡ memory
    → Has b (record (beginning setup) { number = number; began = began; resets = resets; limit = limit; pipes = pipes; made = made; memory = memory })
unfolding beginning
has_begun b setup number began resets limit pipes made memory numbered tables begins held log image =
    let set = tables_of setup.files in
    let begun = subst (λ (t : TableSet). HistoriesBegin t began resets limit b.apps) tables begins in
    record {
      number = numbered;
      tables = tables;
      apps = record {
        hs = (sym (hs_begun (setup_of set.hs resets limit)), begun.hs);
        cs = (sym (cs_begun (cs_tables set)), begun.cs);
        sc = (sym (sc_begun (begun_at began set.sc)), begun.sc);
        mm = begun.mm;
        md = begun.md;
        lc = begun.lc;
      };
      pipes = held;
      made = log;
      memory = image;
    }

-- and can be woken
pub ready_begun : (b : Bench) (regions : List Region) → regions_of b.memory.ram.areas ≡ regions → ScIsReady b.tables.set.sc b.apps.sc.state.value → AllGiven regions b.apps.md.state.value → AreGiven regions b.tables → IsReady b
ready_begun b regions same sequences dwells given = record {
  sc = sequences;
  md = subst (λ (rs : List Region). AllGiven rs b.apps.md.state.value) (sym same) dwells;
  given = subst (λ (rs : List Region). AreGiven rs b.tables) (sym same) given;
}

-- a bench that was opened stands for no frames
pub stands_opened : (b : Bench) (setup : Setup) → b.epoch ≡ setup.epoch → b.tables.files ≡ setup.files → b.failed ≡ false → IsNoted b → b.lines.block ≡ empty_block → b.number ≡ 0 → b.tables.set ≡ tables_of setup.files
    → HistoriesBegin b.tables.set setup.epoch 0 3 b.apps → AreGiven setup.regions b.tables → ScIsReady b.tables.set.sc b.apps.sc.state.value → AllGiven setup.regions b.apps.md.state.value
    → b.wires.bus ≡ empty_pipes (lc_named setup.files) → LogStands [] b.wires.log → b.memory.ram ≡ start_memory setup.regions → Stands b setup []
unfolding run_of beginning
stands_opened b setup epoch files well idle waits number tables begins given sequences dwells pipes made memory = record {
  epoch = epoch;
  files = files;
  well = well;
  waits = waits;
  has = has_begun b setup 0 setup.epoch 0 3 (empty_pipes (lc_named setup.files)) [] (start_memory setup.regions) number tables begins pipes made memory;
  ready = ready_begun b setup.regions (ap (λ (m : Memory). regions_of m.areas) memory ∙ regions-cut setup.regions _) sequences dwells given;
  idle = idle;
}

-- a bench that started anew has what the run comes to behind a processor reset
pub has_anew : (b : Bench) (setup : Setup) (s : State) (began resets limit : ℕ) → began ≡ time_at setup s → resets ≡ resets_made (hs_setup (active_in s)) s.hs → limit ≡ resets_maximum (hs_setup (active_in s)) s.hs
    → Has b (record (beginning setup) { number = s.number; began = began; resets = resets; limit = limit; pipes = emptied_pipes s.pipes; made = s.made; memory = s.memory }) → Has b (behind_reset setup s)
unfolding behind_reset
has_anew b setup s began resets limit at made most has =
    subst (λ (n : ℕ). Has b (record (beginning setup) { number = s.number; began = time_at setup s; resets = resets_made (hs_setup (active_in s)) s.hs; limit = n; pipes = emptied_pipes s.pipes; made = s.made; memory = s.memory })) most
    (subst (λ (n : ℕ). Has b (record (beginning setup) { number = s.number; began = time_at setup s; resets = n; limit = limit; pipes = emptied_pipes s.pipes; made = s.made; memory = s.memory })) made
    (subst (λ (n : ℕ). Has b (record (beginning setup) { number = s.number; began = n; resets = resets; limit = limit; pipes = emptied_pipes s.pipes; made = s.made; memory = s.memory })) at has))

-- and where one was asked for
pub has_behind : (b : Bench) (setup : Setup) (s : State) (resets : Bool) → resets ≡ true → Has b (behind_reset setup s) → Has b (behind resets setup s)
has_behind b setup s resets is has = subst (λ (r : Bool). Has b (behind r setup s)) (sym is) has

-- the upsets of a frame that can be run lie in the bench's regions
pub upsets_mapped : (b : Bench) (setup : Setup) (frames : List Frame) (frame : Frame) → Has b (run_of setup frames) → CanRun setup frames frame → All (λ (u : Upset). is_mapped (regions_of b.memory.ram.areas) u.at ≡ true) frame.upsets
upsets_mapped b setup frames frame has can =
    let same = ap (λ (m : Memory). regions_of m.areas) has.memory ∙ run_regions setup frames in
    subst (λ (regions : List Region). All (λ (u : Upset). is_mapped regions u.at ≡ true) frame.upsets) (sym same) can.upsets

-- the frame's time and that of the frame behind it are numbers of four bytes
pub time_fits : (b : Bench) (setup : Setup) (frames : List Frame) (frame : Frame) → b.epoch ≡ setup.epoch → Has b (run_of setup frames) → CanRun setup frames frame → b.epoch + b.number + 1 < 4294967296
time_fits b setup frames frame epoch has can =
    let number = has.number ∙ run_number setup frames in
    omega (arith, number, epoch, can.time)
