use Rattle.std.proofs.Common.{◌≡◌, take}
use Rattle.bus_pipes.specs.Held.{adding}
use Rattle.bus_pipes.specs.Delivery.{after_offers, drops_from}
use Rattle.bus_pipes.proofs.bus.Bus.deliver.Given as goal

abbrev pub invariant-loop-packet : goal.invariant-loop-packet
invariant-loop-packet l = record {
  after : l.self ≡ after_offers l.fn.self (take l.packet-index l.packets);
  drops : l.drops ≡ adding l.fn.drops (drops_from l.fn.self (take l.packet-index l.packets));
  room : l.drops.room ≡ l.fn.drops.room;
}
