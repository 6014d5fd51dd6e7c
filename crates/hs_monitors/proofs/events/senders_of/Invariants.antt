use Rattle.hs_monitors.specs.Events.{sender_at}
use Rattle.hs_monitors.specs.Heads.{AreHeaded}
use Rattle.hs_monitors.proofs.events.senders_of.Given as goal

-- the names so far are noted
abbrev pub invariant-loop-place : goal.invariant-loop-place
invariant-loop-place l = AreHeaded (sender_at l.events) l.place l.heads
