use Rattle.std.proofs.Common.{◌≡◌, ◌+◌, ◌≤◌, ◌++◌, length, vec_len, vec_capacity}
use Rattle.std.specs.Vec.Iter.{into_iter_items, into_iter_len}
use Rattle.subjects.specs.Seats.{held}
use Rattle.subjects.proofs.crowd.open_seats.Given as goal

abbrev pub invariant-loop-subject : goal.invariant-loop-subject
invariant-loop-subject g l = record {
  order : l.yielded ++ into_iter_items l.subject-iterator ≡ into_iter_items l.initial.subject-iterator;
  left : into_iter_len l.subject-iterator ≡ length (into_iter_items l.subject-iterator);
  seated : held l.seats.items ≡ l.yielded;
  room : vec_len l.seats + length (into_iter_items l.subject-iterator) ≤ vec_capacity l.seats;
}
