use Rattle.subjects.specs.Crowds.{restarted_if}
use Rattle.subjects.proofs.Seats.{one_changed, all_changed}
use Rattle.subjects.proofs.crowd.restart_named.Goals as goal

pub loop-seat-preserved : goal.loop-seat-preserved
loop-seat-preserved g c =
    let loop = c.loop-seat in
    one_changed g.S.Subject.seen (restarted_if c.args.name.now) c.args.seats.now loop.seats loop.seat-index c.seat-item.result c.restart_if.new.self
    c.loop-seat-test.true loop.auto.seats c.seat-item.is c.restart_if.ensures loop.invariant

pub returns : goal.returns
returns g c = all_changed g.S.Subject.seen (restarted_if c.args.name.now) c.args.seats.now c.loop-seat.seats c.loop-seat.seat-index c.loop-seat-test.false c.loop-seat.invariant
