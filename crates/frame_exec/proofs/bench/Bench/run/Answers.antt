use Rattle.std.proofs.Common.{length, refl, sym, ◌∙◌, ap, subst, arith}
use Rattle.std.specs.List.{AllPass}
use Rattle.bus_pipes.specs.Held.{Held}
use Rattle.bus_pipes.specs.Counted.{is_item_counted}
use Rattle.bus_pipes.specs.declared.names.Out.{Out}
use Rattle.packet_log.specs.Standing.{Stands as LogStands}
use Rattle.active_tables.specs.Tables.{Loaded}
use Rattle.frame_exec.specs.declared.wires.Wires.{Wires}
use Rattle.frame_runs.specs.Runs.{activated_at}
use Rattle.frame_runs.specs.Crowds.{with_counters}
use Rattle.frame_exec.proofs.Frames.{apps_kept, keeps_all}
use Rattle.frame_exec.proofs.Naming.{activated_has, events_at}
use Rattle.frame_exec.proofs.Arriving.{told_many, told_counted}
use Rattle.frame_exec.proofs.Waking.{image_is}
use Rattle.frame_exec.proofs.Stepping.{told_still, ran}
use Rattle.frame_exec.proofs.bench.Bench.run.Goals as goal

pub step-items-requires-clause-clear : goal.step-items-requires-clause-clear
step-items-requires-clause-clear g c = λ _ _.
    let takes = c.arrive.ensures.arrives.enters.takes in
    let all = takes.takes in
    record {
      apps = record { hs = all.hs.none; cs = all.cs.none; sc = all.sc.none; mm = all.mm.none; md = all.md.none; lc = all.lc.none };
      operations = takes.operations;
    }

pub send-requires-clause-told : goal.send-requires-clause-told
send-requires-clause-told g c =
    subst (λ (held : Held Out). AllPass is_item_counted held.items) (sym c.step-items.ensures.steps.told) (told_counted _ _ _ c.arrive.ensures.arrives)

pub send-requires-clause-few : goal.send-requires-clause-few
send-requires-clause-few g c =
    let told = ap (λ (held : Held Out). length held.items) c.step-items.ensures.steps.told in
    let many = told_many _ _ _ c.arrive.ensures.arrives in
    omega (arith, told, many, c.arrive.ensures.few)

pub returns-clause-runs : goal.returns-clause-runs
returns-clause-runs g c = λ setup s epoch files has.
    let frame = with_counters c.args.counters.now c.args.input.now in
    let t = activated_at setup s frame in
    let a = c.arrive.ensures.arrives in
    let begun = a.active in
    let active = a.activates in
    let has_now = activated_has begun setup s frame frame.activations refl (active.has setup s files has) in
    let upset = a.enters.writes in
    ran setup t frame a.enters.upset c.arrive.new.self c.step-items.new.self (upset.run.epoch ∙ active.goes.epoch ∙ epoch) (ap (λ (l : Loaded). l.files) upset.run.tables ∙ active.goes.files ∙ files) (upset.run.number ∙ has_now.number)
    (ap (λ (l : Loaded). l.set) upset.run.tables ∙ has_now.tables) (ap (λ (w : Wires). w.bus) upset.wires ∙ has_now.pipes) (image_is t frame begun.memory.ram a.enters.upset.memory.ram frame.upsets has_now.memory refl upset.memory) (apps_kept begun.apps a.enters.upset.apps t (keeps_all _ _ upset.apps) has_now.apps) a.enters.takes
    c.step-items.ensures.steps c.send.new.self
    (ap (λ (held : Held Out). held.items) (told_still _ _ _ _ _ _ a.enters c.step-items.ensures.steps) ∙ events_at setup s frame begun.apps.activations.items frame.activations refl (active.events setup s epoch files has))
    (subst (λ (w : Wires). LogStands t.made w.log) (sym upset.wires) has_now.made) c.send.ensures.sends
