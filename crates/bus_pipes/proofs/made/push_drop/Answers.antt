use Rattle.std.proofs.Common.{◌<◌, length, arith}
use Rattle.bus_pipes.proofs.Places.{placed}
use Rattle.bus_pipes.proofs.made.push_drop.Goals as goal

pub returns-clause-after : goal.returns-clause-after
returns-clause-after c =
    let within : c.drops.inside.count < length c.drops.inside.places.items = omega (arith, c.drops.invariant, c.if-drops-len.false, c.len.ensures) in
    placed c.drops.inside.places.items c.drops.inside.count c.drops.inside.room c.make_drop.new.place _ c.args.drops.now within c.drops.view_is c.make_drop.ensures
