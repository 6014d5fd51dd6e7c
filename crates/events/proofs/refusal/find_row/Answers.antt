use Rattle.std.proofs.Common.{◌∙◌, sym}
use Rattle.events.proofs.EventLemmas.{reason_found, reason_passed, reason_none}
use Rattle.events.proofs.refusal.find_row.Goals as goal

pub returns-then-is_refusal : goal.returns-then-is_refusal
returns-then-is_refusal c = sym (c.loop-refusal.invariant ∙ reason_found _ _ _ _ _ _ c.loop-refusal-test.true c.if-is_refusal.ensures)

pub loop-refusal-preserved : goal.loop-refusal-preserved
loop-refusal-preserved c = c.loop-refusal.invariant ∙ reason_passed _ _ _ _ _ _ c.loop-refusal-test.true c.if-is_refusal.ensures

pub returns : goal.returns
returns c = sym (c.loop-refusal.invariant ∙ reason_none _ _ _ _ _ c.loop-refusal-test.false)
