use Rattle.std.proofs.Common.{refl, sym, ◌∙◌, ap, arith, take_all}
use Rattle.std.specs.List.{flat_map}
use Rattle.bus_pipes.specs.Held.{adding}
use Rattle.bus_pipes.specs.Delivery.{after_offers, drops_from}
use Rattle.frame_wires.specs.Sending.{packets_of}
use Rattle.frame_wires.proofs.Offers.{offers_front, drops_front, offers_none, drops_of_none, in_lists, shown_front, shown_within}
use Rattle.frame_wires.proofs.sending.deliver_lists.Goals as goal

pub lists-init : goal.lists-init
lists-init c = record { after = offers_none c.args.bus.now; drops = drops_of_none c.args.bus.now c.args.drops.now; few = omega arith; room = refl }

pub deliver_items-requires : goal.deliver_items-requires
deliver_items-requires c =
    let within = shown_within c.args.lists.now c.lists.list-index c.list-item.result c.lists-test.true c.list-item.is in
    omega (arith, within, c.requires, c.lists.invariant.few, c.lists.invariant.room)

pub lists-preserved : goal.lists-preserved
lists-preserved c =
    let lists = c.args.lists.now in
    let i = c.lists.list-index in
    let list = c.list-item.result in
    let longer = shown_front lists i list c.lists-test.true c.list-item.is in
    record {
      after = offers_front packets_of c.args.bus.now c.lists.bus c.deliver_items.new.bus lists i list c.lists-test.true c.list-item.is c.lists.invariant.after c.deliver_items.ensures.after;
      drops = drops_front packets_of c.args.bus.now c.lists.bus c.args.drops.now c.lists.drops c.deliver_items.new.drops lists i list c.lists-test.true c.list-item.is c.lists.invariant.after c.lists.invariant.drops
          c.deliver_items.ensures.drops;
      few = omega (arith, longer, c.deliver_items.ensures.few, c.lists.invariant.few);
      room = c.deliver_items.ensures.room ∙ c.lists.invariant.room;
    }

pub returns-clause-after : goal.returns-clause-after
returns-clause-after c =
    let all = take_all c.lists.list-index c.args.lists.now c.lists-test.false in
    c.lists.invariant.after ∙ ap (after_offers c.args.bus.now) (ap (flat_map packets_of) all ∙ sym (in_lists c.args.lists.now))

pub returns-clause-drops : goal.returns-clause-drops
returns-clause-drops c =
    let all = take_all c.lists.list-index c.args.lists.now c.lists-test.false in
    c.lists.invariant.drops ∙ ap (adding c.args.drops.now) (ap (drops_from c.args.bus.now) (ap (flat_map packets_of) all ∙ sym (in_lists c.args.lists.now)))
