use Rattle.std.proofs.Common.{◌≡◌, map, take, vec_len, vec_capacity}
use Rattle.subjects.specs.Plans.{cycled}
use Rattle.subjects.specs.Crowds.{counter_of}
use Rattle.subjects.proofs.Seats.{AreChanged, seen_in}
use Rattle.subjects.proofs.crowd.cycle_in_turn.Given as goal

abbrev pub invariant-loop-seat : goal.invariant-loop-seat
invariant-loop-seat g l = record {
  cycled : AreChanged g.S.Subject.seen cycled l.seat-index l.initial.seats l.seats;
  listed : l.readings.items ≡ map counter_of (take l.seat-index (seen_in g.S.Subject.seen l.initial.seats));
  count : vec_len l.readings ≡ l.seat-index;
  capacity : vec_capacity l.readings ≡ vec_capacity l.initial.readings;
}
