use Rattle.std.proofs.Common.{◌≡◌, take, vec_capacity}
use Rattle.subjects.specs.Seats.{counters_in}
use Rattle.subjects.proofs.crowd.list_counters.Given as goal

abbrev pub invariant-loop-seat : goal.invariant-loop-seat
invariant-loop-seat g l = (l.readings.items ≡ counters_in (take l.seat-index l.seats)) × (vec_capacity l.readings ≡ vec_capacity l.initial.readings)
