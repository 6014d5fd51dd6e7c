use Rattle.std.proofs.Common.{◌≡◌, ◌+◌, ◌≤◌, length, take}
use Rattle.std.specs.List.{flat_map}
use Rattle.bus_pipes.specs.Held.{adding}
use Rattle.bus_pipes.specs.Delivery.{after_offers, drops_from}
use Rattle.frame_wires.specs.Sending.{packet_in}
use Rattle.frame_wires.proofs.sending.deliver_items.Given as goal

-- the packets of the items so far were offered
abbrev pub invariant-items : goal.invariant-items
invariant-items l = record {
  after : l.bus ≡ after_offers l.fn.bus (flat_map packet_in (take l.item-index l.items));
  drops : l.drops ≡ adding l.fn.drops (drops_from l.fn.bus (flat_map packet_in (take l.item-index l.items)));
  few : length l.drops.items ≤ length l.fn.drops.items + l.item-index;
  room : l.drops.room ≡ l.fn.drops.room;
}
