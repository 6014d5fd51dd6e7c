use Rattle.std.proofs.Common.{◌∙◌, sym}
use Rattle.events.proofs.EventLemmas.{event_found, event_passed, event_none}
use Rattle.events.proofs.event.find_event.Goals as goal

pub returns-then-is_event : goal.returns-then-is_event
returns-then-is_event c = sym (c.loop-event.invariant ∙ event_found _ _ _ _ _ _ c.loop-event-test.true c.if-is_event.ensures)

pub loop-event-preserved : goal.loop-event-preserved
loop-event-preserved c = c.loop-event.invariant ∙ event_passed _ _ _ _ _ _ c.loop-event-test.true c.if-is_event.ensures

pub returns : goal.returns
returns c = sym (c.loop-event.invariant ∙ event_none _ _ _ _ _ c.loop-event-test.false)
