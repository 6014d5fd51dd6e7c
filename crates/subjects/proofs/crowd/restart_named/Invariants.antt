use Rattle.subjects.specs.Crowds.{restarted_if}
use Rattle.subjects.proofs.Seats.{AreChanged}
use Rattle.subjects.proofs.crowd.restart_named.Given as goal

abbrev pub invariant-loop-seat : goal.invariant-loop-seat
invariant-loop-seat g l = AreChanged g.S.Subject.seen (restarted_if l.name) l.seat-index l.initial.seats l.seats
