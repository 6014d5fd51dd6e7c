use Rattle.std.proofs.Common.{ℕ, ◌+◌, ◌-◌, List, [], ◌∷◌, drop, refl, ap, sym, ◌∙◌}
use Rattle.std.specs.Prelude.{replicate}
use Rattle.std.proofs.lemmas.Result.{on_ok_weaker}
use Rattle.timed_plans.specs.Schedules.{LineText, held, held_in}
use Rattle.timed_plans.specs.Pages.{written_on, with_rows, row, tick_row, merged}
use Rattle.timed_plans.proofs.PageLemmas.{frame_next, frames_end, lines_from, past_lines}
use Rattle.timed_plans.proofs.page.Page.put_frames.Goals as goal

pub loop-line-preserved : goal.loop-line-preserved
loop-line-preserved c =
    let p = written_on c.loop-line.self in
    let x = c.line-item.result in
    frame_next p (written_on c.put_ticks.new.self) (written_on c.put.new.self) _ c.loop-line.come c.args.frames c.args.number (held x) (held_in (drop (c.loop-line.line-index + 1) c.args.lines.now))
    (ap (λ (ts : List LineText). with_rows p (merged c.loop-line.come c.args.frames c.args.number ts)) (sym (lines_from c.args.lines.now c.loop-line.line-index x c.loop-line-test.true c.line-item.is)) ∙ c.loop-line.invariant)
    (c.in_ok-put_ticks.ensures ∙ ap (λ (k : ℕ). with_rows p (replicate k (tick_row c.args.number))) c.saturating_sub.ensures)
    (c.in_ok-put.ensures ∙ ap (λ (t : List ℕ). with_rows (written_on c.put_ticks.new.self) (row x.number t ∷ [])) c.as_slice.ensures.value)

pub returns : goal.returns
returns c =
    let p = written_on c.loop-line.self in
    on_ok_weaker c.put-2.result
    (λ put. frames_end p (written_on c.put_ticks-2.new.self) (written_on c.put-2.new.self) _ (written_on c.args.self.now) c.loop-line.come c.args.frames c.args.number (merged 0 c.args.frames c.args.number (held_in c.args.lines.now)) refl
    (ap (λ (ts : List LineText). with_rows p (merged c.loop-line.come c.args.frames c.args.number ts)) (sym (past_lines c.args.lines.now c.loop-line.line-index c.loop-line-test.false)) ∙ c.loop-line.invariant)
    (c.in_ok-put_ticks-2.ensures ∙ ap (λ (k : ℕ). with_rows p (replicate k (tick_row c.args.number))) (c.saturating_sub-2.ensures ∙ ap (λ (f : ℕ). f - c.loop-line.come) c.from.ensures))
    put)
    c.put-2.ensures
