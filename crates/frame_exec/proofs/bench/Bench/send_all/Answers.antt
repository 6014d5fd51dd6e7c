use Rattle.std.proofs.Common.{◌≡◌, Bool, ℕ, ◌+◌, List, [], ◌++◌, length, length-append, refl, sym, ◌∙◌, ap, subst, arith}
use Rattle.std.specs.List.{flat_map}
use Rattle.bus_pipes.specs.Held.{Held, adding}
use Rattle.bus_pipes.specs.Delivery.{after_offers, drops_from}
use Rattle.bus_pipes.specs.declared.names.Dropped.{Dropped}
use Rattle.bus_pipes.specs.declared.names.Out.{Out}
use Rattle.bus_pipes.specs.Pipes.{Pipes}
use Rattle.bus_pipes.proofs.Deliveries.{after_offers_none, drops_none, watched_after}
use Rattle.packet_log.specs.Sent.{makes}
use Rattle.packet_log.specs.Standing.{Stands as LogStands}
use Rattle.frame_wires.specs.Sending.{packet_in, offered}
use Rattle.app_suite.specs.Jobs.{jobs_of}
use Rattle.frame_exec.specs.Parts.{items_in}
use Rattle.app_suite.specs.Wakes.{joined}
use Rattle.frame_wires.proofs.Offers.{offers_two, drops_two}
use Rattle.frame_exec.proofs.bench.Bench.send_all.Goals as goal

-- a processor reset is asked for
pub returns-then-self : goal.returns-then-self
returns-then-self c =
    let old = c.args.self.now in
    let stamped = c.stamp.ensures.stamped in
    let apps = stamped.apps in
    let none : offered c.asks_for_reset-self.result c.args.input.now.sends (joined (items_in c.stamp.new.self)) ≡ [] = ap (λ (b : Bool). offered b c.args.input.now.sends (joined (items_in c.stamp.new.self))) c.if-self.true in
    record {
      run = record { lines = refl; epoch = refl; number = refl; failed = refl; tables = refl };
      apps = record { hs = apps.hs; cs = apps.cs; sc = apps.sc; mm = apps.mm; md = apps.md; lc = apps.lc };
      sent = stamped.sent;
      made = stamped.made;
      resets = c.asks_for_reset-self.ensures;
      pipes = stamped.pipes ∙ sym (ap (after_offers old.wires.bus) none ∙ after_offers_none old.wires.bus);
      drops = ap (λ (held : Held Dropped). held.items) stamped.drops ∙ c.requires.none ∙ sym (ap (drops_from old.wires.bus) none ∙ drops_none old.wires.bus);
      memory = refl;
    }

pub returns : goal.returns
returns c =
    let old = c.args.self.now in
    let stamped = c.stamp.ensures.stamped in
    let apps = stamped.apps in
    let sends = c.sends.ensures.value in
    let packets = flat_map packet_in (joined (items_in c.stamp.new.self)) in
    let none : offered c.asks_for_reset-self.result c.args.input.now.sends (joined (items_in c.stamp.new.self)) ≡ c.args.input.now.sends ++ packets = ap (λ (b : Bool). offered b c.args.input.now.sends (joined (items_in c.stamp.new.self))) c.if-self.false in
    let offered_first = c.deliver.ensures.pipes ∙ ap (λ (p : Pipes). after_offers p c.sends.result.now) stamped.pipes ∙ ap (after_offers old.wires.bus) sends in
    record {
      run = record { lines = refl; epoch = refl; number = refl; failed = refl; tables = refl };
      apps = record { hs = apps.hs; cs = apps.cs; sc = apps.sc; mm = apps.mm; md = apps.md; lc = apps.lc };
      sent = stamped.sent;
      made = λ made stands. subst (λ (log : List ℕ). LogStands (made ++ flat_map makes (joined (items_in old.apps))) log) (sym (c.deliver_lists.ensures.log ∙ c.deliver.ensures.log)) (stamped.made made stands);
      resets = c.asks_for_reset-self.ensures;
      pipes = offers_two old.wires.bus c.deliver.new.self.bus _ c.args.input.now.sends packets offered_first (c.deliver_lists.ensures.pipes ∙ ap (λ (items : List Out). after_offers c.deliver.new.self.bus (flat_map packet_in items)) c.in_order-lists.ensures.shown) ∙ sym (ap (after_offers old.wires.bus) none);
      drops = drops_two old.wires.bus c.deliver.new.self.bus c.args.self.now.wires.drops c.deliver.new.self.drops _ c.args.input.now.sends packets c.requires.none offered_first
          (c.deliver.ensures.drops ∙ ap (λ (held : Held Dropped). adding held (drops_from c.stamp.new.wires.bus c.sends.result.now)) stamped.drops
          ∙ ap (λ (p : Pipes). adding old.wires.drops (drops_from p c.sends.result.now)) stamped.pipes ∙ ap (λ (packets : List (List ℕ)). adding old.wires.drops (drops_from old.wires.bus packets)) sends) (c.deliver_lists.ensures.drops ∙ ap (λ (items : List Out). adding c.deliver.new.self.drops (drops_from c.deliver.new.self.bus (flat_map packet_in items))) c.in_order-lists.ensures.shown) ∙ sym (ap (drops_from old.wires.bus) none);
      memory = refl;
    }

pub deliver-requires : goal.deliver-requires
deliver-requires c =
    let before = ap (λ (held : Held Dropped). length held.items) c.stamp.ensures.stamped.drops in
    let none = ap (λ (items : List Dropped). length items) c.requires.none in
    let sends = ap (λ (packets : List (List ℕ)). length packets) c.sends.ensures.value in
    omega (arith, c.requires.few, before, none, sends)

-- the pipes that are there stay the same
watched_is : (c : goal.After-deliver_lists) → c.args.self.now.wires.bus.watched ≡ c.deliver_lists.new.self.bus.watched
watched_is c =
    let first = ap (λ (p : Pipes). p.watched) c.deliver.ensures.pipes ∙ watched_after c.stamp.new.wires.bus c.sends.result.now in
    let second = ap (λ (p : Pipes). p.watched) c.deliver_lists.ensures.pipes ∙ watched_after c.deliver.new.self.bus _ in
    sym (second ∙ first ∙ ap (λ (p : Pipes). p.watched) c.stamp.ensures.stamped.pipes)

pub invariant_of-self-2-clause-manned : goal.invariant_of-self-2-clause-manned
invariant_of-self-2-clause-manned c = c.stamp.ensures.keeps.jobs ∙ c.args.self.now.manned ∙ ap jobs_of (watched_is c)

pub invariant_of-self-2-clause-there : goal.invariant_of-self-2-clause-there
invariant_of-self-2-clause-there c = c.stamp.ensures.keeps.there ∙ c.args.self.now.there ∙ watched_is c

-- how many items seven lists have
seven_long : (a b c d e f g : List Out) → length (a ++ (b ++ (c ++ (d ++ (e ++ (f ++ (g ++ []))))))) ≡ length a + (length b + (length c + (length d + (length e + (length f + (length g + 0))))))
seven_long a b c d e f g = simp length-append

pub deliver_lists-requires : goal.deliver_lists-requires
deliver_lists-requires c =
    let old = c.args.self.now in
    let can = c.requires.can in
    let all = ap (λ (items : List Out). length items) c.in_order-lists.ensures.shown in
    let sum = seven_long old.apps.activations.items old.apps.hs.out.items old.apps.cs.out.items old.apps.sc.out.items old.apps.mm.out.items old.apps.md.out.items old.apps.lc.slot.out.items in
    let before = ap (λ (held : Held Dropped). length held.items) c.stamp.ensures.stamped.drops in
    let none = ap (λ (items : List Dropped). length items) c.requires.none in
    let sends = ap (λ (packets : List (List ℕ)). length packets) c.sends.ensures.value in
    omega (arith, c.deliver.ensures.few, all, c.stamp.ensures.stamped.few, c.requires.few, can.apps.hs.few, can.apps.cs.few, can.apps.sc.few, can.apps.mm.few, can.apps.md.few, can.apps.lc.few, sum, before, none, sends)
