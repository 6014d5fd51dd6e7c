use Rattle.std.proofs.Common.{◌≡◌, ℕ, ◌+◌, ◌-◌, ◌<◌, ◌≤◌, List, [], ◌∷◌, ◌++◌, map, ap, sym, ◌∙◌, arith}
use Rattle.plan_text.specs.Lines.{line_text}
use Rattle.timed_plans.specs.Headings.{stepped}
use Rattle.timed_plans.specs.Schedules.{LineText, app_line, held_in}
use Rattle.timed_plans.proofs.HoldLemmas.{as_text, each_more, each_past, each_done, counted_shown}
use Rattle.timed_plans.proofs.scheduled.add_counts.Goals as goal

pub returns-then-frame-last : goal.returns-then-frame-last
returns-then-frame-last c =
    let h = c.args.heading.now in
    let e = c.from-last.ensures in
    let past : h.last < c.loop-done.frame = omega (arith, c.if-frame-last.true, e) in
    each_past (λ n. as_text n c.args.number (line_text (app_line c.args.name.now (n + 1)))) h.count c.loop-done._done c.loop-done.frame h.step h.last _ _ c.loop-done.invariant past
    ∙ ap (λ (ts : List LineText). held_in c.args.lines.now.items ++ ts) (sym (counted_shown h c.args.number c.args.name.now))

pub loop-done-preserved : goal.loop-done-preserved
loop-done-preserved c =
    let h = c.args.heading.now in
    let e = c.from-last.ensures in
    let within : c.loop-done.frame ≤ h.last = omega (arith, c.if-frame-last.false, e) in
    let line = line_text (app_line c.args.name.now (c.loop-done.frame + 1)) in
    let text : c.as_slice.result.now ≡ line = c.as_slice.ensures.value ∙ c.in_ok-put_app.ensures ∙ ap (λ (t : List ℕ). t ++ line) c.new-text.ensures.items in
    ap (λ (k : ℕ). held_in c.add_line.new.lines.items ++ map (λ n. as_text n c.args.number (line_text (app_line c.args.name.now (n + 1)))) (stepped (h.count - (c.loop-done._done + 1)) (c.loop-done.frame + k) h.step h.last)) c.from-frame-in-loop-done.ensures
    ∙ each_more (λ n. as_text n c.args.number (line_text (app_line c.args.name.now (n + 1)))) h.count c.loop-done._done c.loop-done.frame h.step h.last (held_in c.loop-done.lines.items) _ _ c.loop-done.invariant c.loop-done-test.true within
    (c.in_ok-add_line.ensures ∙ ap (λ (t : List ℕ). held_in c.loop-done.lines.items ++ as_text c.loop-done.frame c.args.number t ∷ []) text)

pub returns : goal.returns
returns c =
    let h = c.args.heading.now in
    each_done (λ n. as_text n c.args.number (line_text (app_line c.args.name.now (n + 1)))) h.count c.loop-done._done c.loop-done.frame h.step h.last _ _ c.loop-done.invariant c.loop-done-test.false
    ∙ ap (λ (ts : List LineText). held_in c.args.lines.now.items ++ ts) (sym (counted_shown h c.args.number c.args.name.now))
