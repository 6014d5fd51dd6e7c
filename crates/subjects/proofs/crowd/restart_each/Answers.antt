use Rattle.std.proofs.Common.{get_or}
use Rattle.subjects.specs.Plans.{restarted}
use Rattle.subjects.proofs.Seats.{one_changed, all_changed}
use Rattle.subjects.proofs.crowd.restart_each.Goals as goal

pub loop-seat-preserved : goal.loop-seat-preserved
loop-seat-preserved g c =
    let loop = c.loop-seat in
    one_changed g.S.Subject.seen restarted c.args.seats.now loop.seats loop.seat-index c.seat-item.result (record { subject = c.restart.new.self; counter = (get_or loop.seats loop.seat-index c.seat-item.result).counter })
    c.loop-seat-test.true loop.auto.seats c.seat-item.is c.restart.ensures.moved loop.invariant

pub returns : goal.returns
returns g c = all_changed g.S.Subject.seen restarted c.args.seats.now c.loop-seat.seats c.loop-seat.seat-index c.loop-seat-test.false c.loop-seat.invariant
