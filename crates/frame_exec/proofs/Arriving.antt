-- What a frame does before the wakeups, by its kind.
use Rattle.std.proofs.Common.{◌≡◌, ℕ, List, [], length, true, refl, sym, ◌∙◌, ap, subst, zero-add}
use Rattle.std.specs.List.{AllPass}
use Rattle.std.proofs.lemmas.List.Elements.{All-nil}
use Rattle.bus_pipes.specs.Counted.{is_item_counted}
use Rattle.bus_pipes.specs.Held.{Held}
use Rattle.bus_pipes.specs.declared.names.Out.{Out}
use Rattle.memory_window.specs.Memory.{Memory, regions_of}
use Rattle.scenario.specs.declared.frame.App.{App}
use Rattle.scenario.specs.declared.frame.Upset.{Upset}
use Rattle.scenario.specs.FrameLists.{Frame}
use Rattle.frame_exec.specs.declared.bench.Bench.{Bench}
use Rattle.frame_exec.specs.declared.applications.Applications.{Applications}
use Rattle.frame_exec.specs.declared.memory.Memory.{Memory as BenchMemory}
use Rattle.frame_runs.proofs.Frames.{regions_same}
use Rattle.frame_exec.specs.Standing.{AreMapped, IsReady}
use Rattle.frame_exec.specs.Stages.{Activates, IsUpset, Takes, Enters, Arrives}
use Rattle.frame_exec.proofs.Frames.{keeps_all, ready_by}
use Rattle.frame_exec.proofs.Naming.{activates_more}

-- no byte is upset
pub upset_none : (b : Bench) → IsUpset [] b b
upset_none b = record {
  run = record { lines = refl; epoch = refl; number = refl; failed = refl; tables = refl };
  apps = refl;
  wires = refl;
  memory = refl;
}

-- the applications can be woken once they took their packets
pub ready_took : (held : List App) (old new : Bench) → Takes held old new → IsReady old → IsReady new
ready_took held old new takes ready = ready_by old new (ap (λ (m : Memory). regions_of m.areas) takes.memory) takes.run.tables takes.apps ready

-- and once the upsets were written
pub ready_upset : (upsets : List Upset) (old new : Bench) → IsUpset upsets old new → IsReady old → IsReady new
ready_upset upsets old new upset ready = ready_by old new (regions_same old.memory.ram new.memory.ram upsets upset.memory) upset.run.tables (keeps_all _ _ upset.apps) ready

-- upsets lie in memory as long as it stays
pub mapped_still : (upsets : List Upset) (old new : BenchMemory) → new ≡ old → AreMapped upsets old.ram → AreMapped upsets new.ram
mapped_still upsets old new same mapped = subst (λ (m : BenchMemory). AreMapped upsets m.ram) (sym same) mapped

-- nothing was upset before the applications took their packets
pub enters_sending : (frame : Frame) (old new : Bench) → frame.upsets ≡ [] → frame.held ≡ [] → Takes [] old new → Enters frame.upsets frame.held old new
enters_sending frame old new upsets held takes = record {
  upset = old;
  writes = subst (λ (us : List Upset). IsUpset us old old) (sym upsets) (upset_none old);
  takes = subst (λ (apps : List App). Takes apps old new) (sym held) takes;
}

-- the frame names no table
pub arrives_unnamed : (frame : Frame) (old middle new : Bench) → frame.activations ≡ [] → Activates [] [] old middle → Enters frame.upsets frame.held middle new → Arrives frame old new
arrives_unnamed frame old middle new unnamed forgets enters = record {
  active = middle;
  activates = subst (λ (ns : List ℕ). Activates ns [] old middle) (sym unnamed) forgets;
  enters = enters;
}

-- the frame names tables
pub arrives_named : (frame : Frame) (old forgot named new : Bench) → Activates [] [] old forgot → forgot.apps.activations.items ≡ [] → Activates frame.activations [] forgot named → Enters frame.upsets frame.held named new → Arrives frame old new
arrives_named frame old forgot named new forgets none activates enters = record {
  active = named;
  activates = activates_more old forgot named [] frame.activations [] [] (sym none) forgets activates;
  enters = enters;
}

-- as many events are told as files are named, and each has a telemetry id
pub told_many : (frame : Frame) (old new : Bench) → Arrives frame old new → length new.apps.activations.items ≡ length frame.activations
told_many frame old new arrives =
    let told = arrives.enters.takes.takes.told ∙ ap (λ (a : Applications). a.activations) arrives.enters.writes.apps in
    ap (λ (held : Held Out). length held.items) told ∙ arrives.activates.many ∙ zero-add (length frame.activations)

pub told_counted : (frame : Frame) (old new : Bench) → Arrives frame old new → AllPass is_item_counted new.apps.activations.items
told_counted frame old new arrives =
    let told = arrives.enters.takes.takes.told ∙ ap (λ (a : Applications). a.activations) arrives.enters.writes.apps in
    subst (λ (held : Held Out). AllPass is_item_counted held.items) (sym told) (arrives.activates.counted (All-nil (λ (item : Out). is_item_counted item ≡ true)))
