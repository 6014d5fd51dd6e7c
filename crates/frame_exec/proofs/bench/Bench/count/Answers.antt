use Rattle.std.proofs.Common.{◌++◌, [], refl, subst, arith, Result, Ok, Err}
use Rattle.fsw_outside.specs.declared.traits.Failed.{Failed}
use Rattle.scenario.specs.FrameLists.{no_items}
use Rattle.frame_wires.proofs.Lines.{nothing_put}
use Rattle.frame_exec.specs.Following.{Adds}
use Rattle.frame_exec.proofs.Frames.{time_fits}
use Rattle.frame_exec.proofs.Behind.{adds_marked, follows_next, cut_added, told_added}
use Rattle.frame_exec.proofs.Counting.{has_counted, idle_next, no_lines, ready_next}
use Rattle.frame_exec.proofs.bench.Bench.count.Goals as goal

pub overflow_add-self : goal.overflow_add-self
overflow_add-self g c =
    let s = c.requires.started in
    let fits = time_fits c.args.self.now s.0 (s.1 ++ s.2) no_items s.3.epoch s.3.has s.4 in
    omega (arith, fits)

pub returns-in-Ok-clause-adds : goal.returns-in-Ok-clause-adds
returns-in-Ok-clause-adds g c = λ setup earlier later follows.
    let b = c.args.self.now in
    let frames = earlier ++ later in
    let before = g.O.Sink.held c.args.sink.now in
    let after = g.O.Sink.held c.mark_end.new.sink in
    let next = c.pass_hs.new.self in
    let passed = c.pass_hs.ensures.passed in
    let lines = no_lines b next setup frames follows.epoch follows.has c.requires.idle passed c.requires.due in
    let adds : Adds {E = Failed} (Ok tt) [] b.lines.block c.mark_end.new.self before after =
    subst (λ (r : Result Unit Failed). Adds {E = Failed} r [] b.lines.block c.mark_end.new.self before after) c.in-Ok.is
    (adds_marked {E = Failed} c.mark_end.result [] b.lines.block b.lines.block c.mark_end.new.self before before after (nothing_put b.lines.block before) c.mark_end.ensures.told c.mark_end.ensures.notes c.mark_end.ensures.left) in
    record {
      follows = follows_next _ setup earlier later no_items [] b.lines.block c.mark_end.new.self before after follows.epoch follows.files follows.well (has_counted b next setup frames follows.epoch follows.has c.requires.idle passed c.requires.due _ refl refl refl refl refl)
          (ready_next b _ refl refl passed follows.ready) (λ noted. idle_next b.wires.bus b.counts b.apps next passed c.pass_hs.ensures.same c.requires.idle) refl lines follows.notes adds;
      told = told_added [] _ b.lines.block b.lines.block c.mark_end.new.self c.mark_end.new.self before after lines refl refl adds;
      cut = tt;
    }

pub returns-in-Err-clause-adds : goal.returns-in-Err-clause-adds
returns-in-Err-clause-adds g c = λ setup earlier later follows.
    let b = c.args.self.now in
    let before = g.O.Sink.held c.args.sink.now in
    let after = g.O.Sink.held c.mark_end.new.sink in
    let lines = no_lines b c.pass_hs.new.self setup (earlier ++ later) follows.epoch follows.has c.requires.idle c.pass_hs.ensures.passed c.requires.due in
    let adds : Adds {E = Failed} (Err c.in-Err.field-0) [] b.lines.block c.mark_end.new.self before after =
    subst (λ (r : Result Unit Failed). Adds {E = Failed} r [] b.lines.block c.mark_end.new.self before after) c.in-Err.is
    (adds_marked {E = Failed} c.mark_end.result [] b.lines.block b.lines.block c.mark_end.new.self before before after (nothing_put b.lines.block before) c.mark_end.ensures.told c.mark_end.ensures.notes c.mark_end.ensures.left) in
    record {
      follows = tt;
      told = tt;
      cut = cut_added {E = Failed} c.in-Err.field-0 setup earlier later no_items [] b.lines.block c.mark_end.new.self before after c.cut.result.late lines follows.notes adds c.cut.ensures.late;
    }

pub pass_hs-requires-clause-rests : goal.pass_hs-requires-clause-rests
pass_hs-requires-clause-rests g c = c.requires.idle.hs
