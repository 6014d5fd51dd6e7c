use Rattle.std.proofs.Common.{refl, arith, ◌∙◌}
use Rattle.frame_wires.specs.Sending.{packet_in}
use Rattle.frame_wires.proofs.Offers.{offers_front, drops_front, offers_none, drops_of_none}
use Rattle.frame_wires.proofs.sending.deliver_items.Goals as goal

pub items-init : goal.items-init
items-init c = record { after = offers_none c.args.bus.now; drops = drops_of_none c.args.bus.now c.args.drops.now; few = omega arith; room = refl }

pub items-preserved : goal.items-preserved
items-preserved c = record {
  after = offers_front packet_in c.args.bus.now c.items.bus c.deliver_one.new.bus c.args.items.now c.items.item-index c.item-item.result c.items-test.true c.item-item.is c.items.invariant.after c.deliver_one.ensures.after;
  drops = drops_front packet_in c.args.bus.now c.items.bus c.args.drops.now c.items.drops c.deliver_one.new.drops c.args.items.now c.items.item-index c.item-item.result c.items-test.true c.item-item.is
      c.items.invariant.after c.items.invariant.drops c.deliver_one.ensures.drops;
  few = omega (arith, c.deliver_one.ensures.few, c.items.invariant.few);
  room = c.deliver_one.ensures.room ∙ c.items.invariant.room;
}
