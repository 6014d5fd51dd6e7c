use Rattle.std.proofs.Common.{refl, ◌∙◌, ap}
use Rattle.std.specs.Prelude.{Bool, not}
use Rattle.bus_pipes.specs.Pipes.{Pipes}
use Rattle.frame_exec.proofs.Waking.{left_is, taken_by}
use Rattle.frame_exec.proofs.applications.Applications.take_all_but.Goals as goal

pub returns-clause-takes : goal.returns-clause-takes
returns-clause-takes c = λ held are.
    let events = ap (λ (p : Pipes). p.hs_ev) c.take.ensures.pipes in
    let cs = ap (λ (p : Pipes). p.cs) c.take_unless.ensures.pipes ∙ ap (λ (p : Pipes). p.cs) c.take.ensures.pipes in
    let sc = ap (λ (p : Pipes). p.sc) c.take-2.ensures.pipes ∙ ap (λ (p : Pipes). p.sc) c.take_unless.ensures.pipes ∙ ap (λ (p : Pipes). p.sc) c.take.ensures.pipes in
    let mm = ap (λ (p : Pipes). p.mm) c.take-3.ensures.pipes ∙ ap (λ (p : Pipes). p.mm) c.take-2.ensures.pipes ∙ ap (λ (p : Pipes). p.mm) c.take_unless.ensures.pipes ∙ ap (λ (p : Pipes). p.mm) c.take.ensures.pipes in
    let md = ap (λ (p : Pipes). p.md) c.take-4.ensures.pipes ∙ ap (λ (p : Pipes). p.md) c.take-3.ensures.pipes ∙ ap (λ (p : Pipes). p.md) c.take-2.ensures.pipes ∙ ap (λ (p : Pipes). p.md) c.take_unless.ensures.pipes
    ∙ ap (λ (p : Pipes). p.md) c.take.ensures.pipes in
    let lc = ap (λ (p : Pipes). p.lc) c.take-5.ensures.pipes ∙ ap (λ (p : Pipes). p.lc) c.take-4.ensures.pipes ∙ ap (λ (p : Pipes). p.lc) c.take-3.ensures.pipes ∙ ap (λ (p : Pipes). p.lc) c.take-2.ensures.pipes
    ∙ ap (λ (p : Pipes). p.lc) c.take_unless.ensures.pipes ∙ ap (λ (p : Pipes). p.lc) c.take.ensures.pipes in
    let telemetry = ap (λ (p : Pipes). p.lc_tlm) c.take-5.ensures.pipes ∙ ap (λ (p : Pipes). p.lc_tlm) c.take-4.ensures.pipes ∙ ap (λ (p : Pipes). p.lc_tlm) c.take-3.ensures.pipes ∙ ap (λ (p : Pipes). p.lc_tlm) c.take-2.ensures.pipes
    ∙ ap (λ (p : Pipes). p.lc_tlm) c.take_unless.ensures.pipes ∙ ap (λ (p : Pipes). p.lc_tlm) c.take.ensures.pipes in
    let watched = ap (λ (p : Pipes). p.watched) c.take-5.ensures.pipes ∙ ap (λ (p : Pipes). p.watched) c.take-4.ensures.pipes ∙ ap (λ (p : Pipes). p.watched) c.take-3.ensures.pipes ∙ ap (λ (p : Pipes). p.watched) c.take-2.ensures.pipes
    ∙ ap (λ (p : Pipes). p.watched) c.take_unless.ensures.pipes ∙ ap (λ (p : Pipes). p.watched) c.take.ensures.pipes in
    record {
      told = refl;
      hs = taken_by _ _ _ _ _ _ _ are.hs refl c.take.ensures.takes;
      events = λ free. c.take_unless.ensures.taken (are.hs ∙ free) ∙ events;
      cs = taken_by _ _ _ _ _ _ _ are.cs cs c.take-2.ensures.takes;
      sc = taken_by _ _ _ _ _ _ _ are.sc sc c.take-3.ensures.takes;
      mm = taken_by _ _ _ _ _ _ _ are.mm mm c.take-4.ensures.takes;
      md = taken_by _ _ _ _ _ _ _ are.md md c.take-5.ensures.takes;
      lc = taken_by _ _ _ _ _ _ _ (ap (λ (w : Bool). not w) watched) lc c.take-6.ensures.takes;
      telemetry = λ there. c.take-6.ensures.telemetry (ap (λ (w : Bool). not w) watched ∙ there) ∙ telemetry;
    }

pub returns-clause-pipes : goal.returns-clause-pipes
returns-clause-pipes c = λ held are.
    left_is held c.args.wires.now.bus c.take.new.bus c.take_unless.new.bus c.take-2.new.bus c.take-3.new.bus c.take-4.new.bus c.take-5.new.bus c.take-6.new.bus c.args.holds.hs c.args.holds.cs c.args.holds.sc c.args.holds.mm c.args.holds.md are.hs are.cs are.sc are.mm are.md c.take.ensures.pipes c.take_unless.ensures.pipes c.take-2.ensures.pipes
    c.take-3.ensures.pipes c.take-4.ensures.pipes c.take-5.ensures.pipes c.take-6.ensures.pipes

pub returns-clause-apps : goal.returns-clause-apps
returns-clause-apps c = record { hs = c.take.ensures.state; cs = c.take-2.ensures.state; sc = c.take-3.ensures.state; mm = c.take-4.ensures.state; md = c.take-5.ensures.state; lc = c.take-6.ensures.state }
