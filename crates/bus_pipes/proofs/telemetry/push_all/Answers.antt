use Rattle.std.proofs.Common.{◌∙◌}
use Rattle.bus_pipes.proofs.Places.{front_placed}
use Rattle.bus_pipes.proofs.telemetry.push_all.Goals as goal

pub loop-packet-preserved : goal.loop-packet-preserved
loop-packet-preserved c = record {
  items = front_placed c.args.telemetry.now.items c.args.packets.now c.loop-packet.telemetry c.push_copy.new.telemetry c.loop-packet.packet-index c.packet-item.result c.loop-packet-test.true c.packet-item.is c.loop-packet.invariant.items c.push_copy.ensures.after;
  room = c.push_copy.ensures.room ∙ c.loop-packet.invariant.room;
}
