use Rattle.std.proofs.Common.{◌≡◌, drop}
use Rattle.events.specs.Events.{event_row}
use Rattle.events.proofs.event.find_event.Given as goal

abbrev pub invariant-loop-event : goal.invariant-loop-event
invariant-loop-event l = event_row l.events l.application l.number l.kind ≡ event_row (drop l.event-index l.events) l.application l.number l.kind
