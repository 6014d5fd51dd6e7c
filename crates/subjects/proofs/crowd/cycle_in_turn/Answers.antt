use Rattle.std.proofs.Common.{◌++◌, ◌∷◌, [], List, map, take, get_or, ap, ◌∙◌, arith}
use Rattle.packet_forms.specs.declared.name.Counter.{Counter}
use Rattle.subjects.specs.declared.seat.Seat.{Seat}
use Rattle.subjects.specs.Plans.{cycled}
use Rattle.subjects.specs.Crowds.{counter_of}
use Rattle.subjects.proofs.Seats.{seen_in, counter_told, one_changed, one_more, all_changed, all_listed}
use Rattle.subjects.proofs.crowd.cycle_in_turn.Goals as goal

pub loop-seat-preserved : goal.loop-seat-preserved
loop-seat-preserved g c =
    let seen = g.S.Subject.seen in
    let loop = c.loop-seat in
    let before = c.args.seats.now in
    let was : Seat g.row.S.Denot = get_or loop.seats loop.seat-index c.seat-item.result in
    let now = c.cycle.new.self in
    let cycle = c.cycle.ensures in
    let pushed = c.push_reserved.ensures in
    record {
      cycled = one_changed seen cycled before loop.seats loop.seat-index c.seat-item.result (record { subject = now; counter = was.counter }) c.loop-seat-test.true loop.auto.seats c.seat-item.is cycle.moved loop.invariant.cycled;
      listed = pushed.items
          ∙ ap (λ (front : List Counter). front ++ record { name = c.name.result; value = c.cycle.result } ∷ []) loop.invariant.listed
          ∙ ap (λ (one : Counter). map counter_of (take loop.seat-index (seen_in seen before)) ++ one ∷ []) (counter_told (seen was.subject) c.name.result c.cycle.result c.name.ensures.name cycle.reading)
          ∙ one_more seen counter_of cycled before loop.seats loop.seat-index c.seat-item.result c.loop-seat-test.true loop.auto.seats loop.invariant.cycled;
      count = (let was = loop.invariant.count in let len = pushed.len in omega arith);
      capacity = pushed.capacity ∙ loop.invariant.capacity;
    }

pub returns : goal.returns
returns g c =
    let seen = g.S.Subject.seen in
    let loop = c.loop-seat in
    let before = c.args.seats.now in
    record {
      subjects = all_changed seen cycled before loop.seats loop.seat-index c.loop-seat-test.false loop.invariant.cycled;
      readings = loop.invariant.listed ∙ all_listed seen counter_of before loop.seat-index c.loop-seat-test.false;
      capacity = loop.invariant.capacity ∙ c.clear.ensures.capacity;
    }
