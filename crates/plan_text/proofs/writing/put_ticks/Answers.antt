use Rattle.std.proofs.Common.{ℕ, List, ◌++◌, ap, sym, ◌∙◌, append-nil}
use Rattle.plan_text.proofs.WritingLemmas.{text_nil, tick_put}
use Rattle.plan_text.proofs.writing.put_ticks.Goals as goal

pub loop-done-init : goal.loop-done-init
loop-done-init c = sym (ap (λ (t : List ℕ). c.args.out.now.items ++ t) text_nil ∙ append-nil c.args.out.now.items)

pub loop-done-preserved : goal.loop-done-preserved
loop-done-preserved c = tick_put c.loop-done._done c.args.out.now.items _ _ c.loop-done.invariant c.in_ok-extend_from_slice.ensures.items
