-- Seats of a crowd: each has a subject, and the counter that it gave last.
use Rattle.std.specs.Prelude.{List, map}
use Rattle.packet_forms.specs.declared.name.Counter.{Counter}
use Rattle.subjects.specs.declared.seat.Seat.{Seat}

-- the subjects of seats, and the counters
abbrev pub held : {S : Type 0} → List (Seat S) → List S
held {S} seats = map (λ (s : Seat S). s.subject) seats

abbrev pub counters_in : {S : Type 0} → List (Seat S) → List Counter
counters_in {S} seats = map (λ (s : Seat S). s.counter) seats
