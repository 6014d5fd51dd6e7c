use Rattle.std.proofs.Common.{◌<◌, length, arith}
use Rattle.packet_forms.proofs.Forms.{telemetry_reads_back}
use Rattle.bus_pipes.proofs.Places.{placed}
use Rattle.bus_pipes.proofs.made.push_telemetry.Goals as goal

pub returns-clause-after : goal.returns-clause-after
returns-clause-after c =
    let within : c.out.inside.count < length c.out.inside.places.items = omega (arith, c.out.invariant, c.if-out-len.false, c.len.ensures) in
    placed c.out.inside.places.items c.out.inside.count c.out.inside.room c.make_telemetry.new.item _ c.args.out.now within c.out.view_is c.make_telemetry.ensures

pub returns-clause-reads_back : goal.returns-clause-reads_back
returns-clause-reads_back c = telemetry_reads_back c.args.mid c.args.secs c.args.payload.now c.requires.version c.requires.size
