use Rattle.std.proofs.Common.{◌≡◌, ◌≤◌, take}
use Rattle.bus_pipes.specs.Pipes.{count_of_id}
use Rattle.bus_pipes.proofs.pipe.count_of_id.Given as goal

abbrev pub invariant-loop-packet : goal.invariant-loop-packet
invariant-loop-packet l = record {
  count : l.count ≡ count_of_id l.id (take l.packet-index l.packets);
  few : l.count ≤ l.packet-index;
}
