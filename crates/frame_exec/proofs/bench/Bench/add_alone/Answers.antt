use Rattle.std.proofs.Common.{◌++◌, sym, subst, arith}
use Rattle.scenario.specs.FrameLists.{Frame}
use Rattle.frame_exec.specs.Standing.{CanRun}
use Rattle.frame_exec.specs.Following.{AddsFrame}
use Rattle.frame_exec.proofs.Frames.{time_fits}
use Rattle.frame_exec.proofs.bench.Bench.add_alone.Goals as goal

pub passes-requires : goal.passes-requires
passes-requires g c =
    let s = c.requires.started in
    let fits = time_fits c.args.self.now s.0 (s.1 ++ s.2) c.args.input.now s.3.epoch s.3.has s.4 in
    omega (arith, fits)

pub count-requires-clause-started : goal.count-requires-clause-started
count-requires-clause-started g c =
    let s = c.requires.started in
    (s.0, s.1, s.2, s.3, subst (CanRun s.0 (s.1 ++ s.2)) (c.passes.ensures.none c.if-passes.true) s.4)

pub count-requires-clause-idle : goal.count-requires-clause-idle
count-requires-clause-idle g c = c.requires.started.3.idle (c.passes.ensures.idle c.if-passes.true)

pub returns-then-passes-clause-adds : goal.returns-then-passes-clause-adds
returns-then-passes-clause-adds g c = λ setup earlier later follows.
    subst (λ (frame : Frame). AddsFrame c.count.result setup earlier later frame c.args.self.now c.count.new.self (g.O.Sink.held c.args.sink.now) (g.O.Sink.held c.count.new.sink)) (sym (c.passes.ensures.none c.if-passes.true))
    (c.count.ensures.adds setup earlier later follows)

pub count-requires-clause-hs : goal.count-requires-clause-hs
count-requires-clause-hs g c = c.passes.ensures.hs c.if-passes.true
