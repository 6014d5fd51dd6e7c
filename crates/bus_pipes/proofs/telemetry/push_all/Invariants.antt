use Rattle.std.proofs.Common.{◌≡◌, ◌++◌, take}
use Rattle.bus_pipes.proofs.telemetry.push_all.Given as goal

abbrev pub invariant-loop-packet : goal.invariant-loop-packet
invariant-loop-packet l = record {
  items : l.telemetry.items ≡ l.fn.telemetry.items ++ take l.packet-index l.packets;
  room : l.telemetry.room ≡ l.fn.telemetry.room;
}
