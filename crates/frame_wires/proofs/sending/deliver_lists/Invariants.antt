use Rattle.std.proofs.Common.{◌≡◌, ◌+◌, ◌≤◌, length, take}
use Rattle.std.specs.List.{flat_map}
use Rattle.bus_pipes.specs.Held.{adding}
use Rattle.bus_pipes.specs.Delivery.{after_offers, drops_from}
use Rattle.frame_wires.specs.Sending.{packets_of, shown}
use Rattle.frame_wires.proofs.sending.deliver_lists.Given as goal

-- the packets of the lists so far were offered
abbrev pub invariant-lists : goal.invariant-lists
invariant-lists l = record {
  after : l.bus ≡ after_offers l.fn.bus (flat_map packets_of (take l.list-index l.lists));
  drops : l.drops ≡ adding l.fn.drops (drops_from l.fn.bus (flat_map packets_of (take l.list-index l.lists)));
  few : length l.drops.items ≤ length l.fn.drops.items + length (shown (take l.list-index l.lists));
  room : l.drops.room ≡ l.fn.drops.room;
}
