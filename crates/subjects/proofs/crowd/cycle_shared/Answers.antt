use Rattle.std.proofs.Common.{sym, ap, ◌∙◌}
use Rattle.subjects.specs.declared.seat.Seat.{Seat}
use Rattle.subjects.specs.Plans.{cycled}
use Rattle.subjects.specs.Crowds.{counter_of}
use Rattle.subjects.proofs.Seats.{seen_seats, each_seat}
use Rattle.subjects.proofs.crowd.cycle_shared.Goals as goal

pub returns-clause-subjects : goal.returns-clause-subjects
returns-clause-subjects g c =
    let seen = g.S.Subject.seen in
    sym (seen_seats seen c.for_each_mut.new.s)
    ∙ each_seat seen (λ (s : Seat g.row.S.Denot). seen s.subject) cycled c.for_each_mut.new.s c.args.seats.now c.for_each_mut.auto.s
    (λ i d within.
    let at = (c.for_each_mut.ensures i d within).1 in
    ap (λ (s : Seat g.row.S.Denot). seen s.subject) (sym at.left) ∙ at.call.0 ∙ ap (λ (s : Seat g.row.S.Denot). cycled (seen s.subject)) at.argument_is)

pub returns-clause-counters : goal.returns-clause-counters
returns-clause-counters g c =
    let seen = g.S.Subject.seen in
    each_seat seen (λ (s : Seat g.row.S.Denot). s.counter) counter_of c.for_each_mut.new.s c.args.seats.now c.for_each_mut.auto.s
    (λ i d within.
    let at = (c.for_each_mut.ensures i d within).1 in
    ap (λ (s : Seat g.row.S.Denot). s.counter) (sym at.left) ∙ at.call.1 ∙ ap (λ (s : Seat g.row.S.Denot). counter_of (seen s.subject)) at.argument_is)
