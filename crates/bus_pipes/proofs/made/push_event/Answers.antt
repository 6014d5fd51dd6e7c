use Rattle.std.proofs.Common.{◌<◌, length, arith}
use Rattle.bus_pipes.proofs.Places.{placed}
use Rattle.bus_pipes.proofs.made.push_event.Goals as goal

pub returns-clause-after : goal.returns-clause-after
returns-clause-after c =
    let within : c.out.inside.count < length c.out.inside.places.items = omega (arith, c.out.invariant, c.if-out-len.false, c.len.ensures) in
    placed c.out.inside.places.items c.out.inside.count c.out.inside.room c.make_event.new.item _ c.args.out.now within c.out.view_is c.make_event.ensures
