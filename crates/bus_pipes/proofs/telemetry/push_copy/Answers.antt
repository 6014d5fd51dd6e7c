use Rattle.std.proofs.Common.{◌<◌, length, arith}
use Rattle.bus_pipes.proofs.Places.{placed}
use Rattle.bus_pipes.proofs.telemetry.push_copy.Goals as goal

pub returns-clause-after : goal.returns-clause-after
returns-clause-after c =
    let within : c.telemetry.inside.count < length c.telemetry.inside.places.items = omega (arith, c.telemetry.invariant, c.if-telemetry-len.false, c.len.ensures) in
    placed c.telemetry.inside.places.items c.telemetry.inside.count c.telemetry.inside.room c.copy_from.new.self _ c.args.telemetry.now within c.telemetry.view_is c.copy_from.ensures
