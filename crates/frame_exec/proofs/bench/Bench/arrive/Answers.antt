use Rattle.std.proofs.Common.{ℕ, List, [], length, ap, sym, subst, ◌∙◌, arith}
use Rattle.scenario.specs.declared.frame.App.{App}
use Rattle.app_suite.specs.Holding.{AreHeld}
use Rattle.frame_exec.specs.Stages.{Activates, Enters}
use Rattle.frame_exec.proofs.Arriving.{mapped_still, enters_sending, arrives_unnamed, arrives_named}
use Rattle.frame_exec.proofs.bench.Bench.arrive.Goals as goal

-- the frame only sends
pub returns-in-OnlySends-clause-arrives : goal.returns-in-OnlySends-clause-arrives
returns-in-OnlySends-clause-arrives c =
    let lacks = c.in-OnlySends.ensures.kind in
    arrives_unnamed c.args.input.now _ _ _ lacks.2 c.forget_told.ensures.forgets (enters_sending c.args.input.now _ _ lacks.0 lacks.1 (c.take_all_but.ensures.takes _ c.none.ensures))

pub returns-in-OnlySends-clause-ready : goal.returns-in-OnlySends-clause-ready
returns-in-OnlySends-clause-ready c = c.take_all_but.ensures.ready (c.forget_told.ensures.ready c.requires.ready)

-- nobody is held
pub enter-requires-clause-upsets : goal.enter-requires-clause-upsets
enter-requires-clause-upsets c = mapped_still _ _ _ c.forget_told.ensures.forgets.memory c.requires.upsets

pub enter-requires-clause-ready : goal.enter-requires-clause-ready
enter-requires-clause-ready c = c.forget_told.ensures.ready c.requires.ready

pub returns-in-Plain-clause-arrives : goal.returns-in-Plain-clause-arrives
returns-in-Plain-clause-arrives c =
    let lacks = c.in-Plain.ensures.kind in
    arrives_unnamed c.args.input.now _ _ _ lacks.1 c.forget_told.ensures.forgets
    (subst (λ (held : List App). Enters c.args.input.now.upsets held c.forget_told.new.self c.enter.new.self) (sym lacks.0) (c.enter.ensures.enters _ c.none-in-Plain.ensures))

-- applications are held
pub enter-requires-in-Holds-clause-upsets : goal.enter-requires-in-Holds-clause-upsets
enter-requires-in-Holds-clause-upsets c = mapped_still _ _ _ c.forget_told.ensures.forgets.memory c.requires.upsets

pub enter-requires-in-Holds-clause-ready : goal.enter-requires-in-Holds-clause-ready
enter-requires-in-Holds-clause-ready c = c.forget_told.ensures.ready c.requires.ready

pub returns-in-Holds-clause-arrives : goal.returns-in-Holds-clause-arrives
returns-in-Holds-clause-arrives c =
    arrives_unnamed c.args.input.now _ _ _ c.in-Holds.ensures.kind c.forget_told.ensures.forgets
    (c.enter-in-Holds.ensures.enters _ (subst (λ (held : List App). AreHeld held c.of-in-Holds.result) c.held.ensures.value c.of-in-Holds.ensures))

-- files are named
pub activate_all-requires-clause-time : goal.activate_all-requires-clause-time
activate_all-requires-clause-time c =
    let goes = c.forget_told.ensures.forgets.goes in
    omega (arith, goes.epoch, goes.number, c.requires.time)

pub activate_all-requires-clause-few : goal.activate_all-requires-clause-few
activate_all-requires-clause-few c =
    let same = ap (λ (ns : List ℕ). length ns) c.activations.ensures.value in omega (arith, c.activations.ensures.limit, same)

pub activate_all-requires-clause-ready : goal.activate_all-requires-clause-ready
activate_all-requires-clause-ready c = c.forget_told.ensures.ready c.requires.ready

pub enter-requires-in-NamesTables-clause-upsets : goal.enter-requires-in-NamesTables-clause-upsets
enter-requires-in-NamesTables-clause-upsets c = mapped_still _ _ _ (c.activate_all.ensures.activates.memory ∙ c.forget_told.ensures.forgets.memory) c.requires.upsets

pub returns-in-NamesTables-clause-arrives : goal.returns-in-NamesTables-clause-arrives
returns-in-NamesTables-clause-arrives c =
    arrives_named c.args.input.now _ c.forget_told.new.self c.activate_all.new.self _ c.forget_told.ensures.forgets c.forget_told.ensures.none
    (subst (λ (ns : List ℕ). Activates ns [] c.forget_told.new.self c.activate_all.new.self) c.activations.ensures.value c.activate_all.ensures.activates)
    (c.enter-in-NamesTables.ensures.enters _ (subst (λ (held : List App). AreHeld held c.of-in-NamesTables.result) c.held-in-NamesTables.ensures.value c.of-in-NamesTables.ensures))
