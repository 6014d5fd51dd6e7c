use Rattle.std.proofs.Common.{ℕ, ◌+◌, ◌-◌, ◌<◌, ◌≤◌, [], ◌∷◌, ◌++◌, map, ap, ◌∙◌, arith}
use Rattle.timed_plans.specs.Headings.{stepped}
use Rattle.timed_plans.specs.Schedules.{held_in}
use Rattle.timed_plans.proofs.HoldLemmas.{as_text, each_more, each_past, each_done}
use Rattle.timed_plans.proofs.scheduled.add_each.Goals as goal

pub returns-then-frame-last : goal.returns-then-frame-last
returns-then-frame-last c =
    let e = c.from-last.ensures in
    let past : c.args.heading.now.last < c.loop-done.frame = omega (arith, c.if-frame-last.true, e) in
    each_past (λ n. as_text (n + c.args.later) c.args.number c.args.text.now) c.args.heading.now.count c.loop-done._done c.loop-done.frame c.args.heading.now.step c.args.heading.now.last _ _ c.loop-done.invariant past

pub loop-done-preserved : goal.loop-done-preserved
loop-done-preserved c =
    let h = c.args.heading.now in
    let e = c.from-last.ensures in
    let within : c.loop-done.frame ≤ h.last = omega (arith, c.if-frame-last.false, e) in
    ap (λ (k : ℕ). held_in c.add_line.new.lines.items ++ map (λ n. as_text (n + c.args.later) c.args.number c.args.text.now) (stepped (h.count - (c.loop-done._done + 1)) (c.loop-done.frame + k) h.step h.last)) c.from-frame-in-loop-done.ensures
    ∙ each_more (λ n. as_text (n + c.args.later) c.args.number c.args.text.now) h.count c.loop-done._done c.loop-done.frame h.step h.last (held_in c.loop-done.lines.items) _ _ c.loop-done.invariant c.loop-done-test.true within
    (c.in_ok-add_line.ensures ∙ ap (λ (k : ℕ). held_in c.loop-done.lines.items ++ as_text (c.loop-done.frame + k) c.args.number c.args.text.now ∷ []) c.from.ensures)

pub returns : goal.returns
returns c = each_done (λ n. as_text (n + c.args.later) c.args.number c.args.text.now) c.args.heading.now.count c.loop-done._done c.loop-done.frame c.args.heading.now.step c.args.heading.now.last _ _ c.loop-done.invariant c.loop-done-test.false
