use Rattle.std.proofs.Common.{◌≡◌, ◌≤◌, ◌+◌, List, ℕ, length, take, ap, sym, ◌∙◌, arith, subst, refl}
use Rattle.std.proofs.lemmas.List.{take_all, length-take-le}
use Rattle.bus_pipes.specs.Held.{Held, adding}
use Rattle.bus_pipes.specs.Delivery.{after_offers, drops_from}
use Rattle.bus_pipes.specs.declared.names.Dropped.{Dropped}
use Rattle.bus_pipes.proofs.Deliveries.{front_after, front_drops, adding_none, after_offers_none, drops_none, room_for_drops}
use Rattle.bus_pipes.proofs.bus.Bus.deliver.Goals as goal

pub route-requires : goal.route-requires
route-requires c =
    let few : length c.loop-packet.drops.items ≤ length c.args.drops.now.items + length (take c.loop-packet.packet-index c.args.packets.now) =
    subst (λ (h : Held Dropped). length h.items ≤ length c.args.drops.now.items + length (take c.loop-packet.packet-index c.args.packets.now)) (sym c.loop-packet.invariant.drops)
    (room_for_drops c.args.self.now c.args.drops.now (take c.loop-packet.packet-index c.args.packets.now)) in
    let size : length (take c.loop-packet.packet-index c.args.packets.now) ≡ c.loop-packet.packet-index = length-take-le c.loop-packet.packet-index c.args.packets.now c.loop-packet.auto.packet-index-end in
    let room = c.loop-packet.invariant.room in
    omega arith

pub loop-packet-init : goal.loop-packet-init
loop-packet-init c = record {
  after = sym (after_offers_none c.args.self.now);
  drops = sym (ap (adding c.args.drops.now) (drops_none c.args.self.now) ∙ adding_none c.args.drops.now);
  room = refl;
}

pub loop-packet-preserved : goal.loop-packet-preserved
loop-packet-preserved c = record {
  after = front_after c.args.self.now c.loop-packet.self c.route.new.self c.args.packets.now c.loop-packet.packet-index c.packet-item.result c.loop-packet-test.true c.packet-item.is c.loop-packet.invariant.after c.route.ensures.after;
  drops = front_drops c.args.self.now c.loop-packet.self c.args.drops.now c.loop-packet.drops c.route.new.drops c.args.packets.now c.loop-packet.packet-index c.packet-item.result c.loop-packet-test.true c.packet-item.is c.loop-packet.invariant.after c.loop-packet.invariant.drops c.route.ensures.drops;
  room = c.route.ensures.room ∙ c.loop-packet.invariant.room;
}

pub returns-clause-after : goal.returns-clause-after
returns-clause-after c =
    c.loop-packet.invariant.after ∙ ap (after_offers c.args.self.now) (take_all c.loop-packet.packet-index c.args.packets.now c.loop-packet-test.false)

pub returns-clause-drops : goal.returns-clause-drops
returns-clause-drops c =
    c.loop-packet.invariant.drops
    ∙ ap (λ (packets : List (List ℕ)). adding c.args.drops.now (drops_from c.args.self.now packets)) (take_all c.loop-packet.packet-index c.args.packets.now c.loop-packet-test.false)

pub returns-clause-few : goal.returns-clause-few
returns-clause-few c =
    let same : c.loop-packet.drops ≡ adding c.args.drops.now (drops_from c.args.self.now c.args.packets.now) =
    c.loop-packet.invariant.drops
    ∙ ap (λ (packets : List (List ℕ)). adding c.args.drops.now (drops_from c.args.self.now packets)) (take_all c.loop-packet.packet-index c.args.packets.now c.loop-packet-test.false) in
    subst (λ (h : Held Dropped). length h.items ≤ length c.args.drops.now.items + length c.args.packets.now) (sym same)
    (room_for_drops c.args.self.now c.args.drops.now c.args.packets.now)
