use Rattle.subjects.specs.Plans.{restarted}
use Rattle.subjects.proofs.Seats.{AreChanged}
use Rattle.subjects.proofs.crowd.restart_each.Given as goal

abbrev pub invariant-loop-seat : goal.invariant-loop-seat
invariant-loop-seat g l = AreChanged g.S.Subject.seen restarted l.seat-index l.initial.seats l.seats
