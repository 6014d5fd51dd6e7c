use Rattle.std.proofs.Common.{sym, ◌∙◌}
use Rattle.bus_pipes.specs.declared.names.Offer.TheVariants.{Limit, Full}
use Rattle.bus_pipes.proofs.Deliveries.{after_offer_nowhere, routed, dropped, none_dropped, none_lost, sent}
use Rattle.bus_pipes.proofs.bus.Bus.route.Goals as goal

pub returns-in_default-clause-after : goal.returns-in_default-clause-after
returns-in_default-clause-after c =
    sym (after_offer_nowhere c.args.self.now c.args.packet.now (sent c.args.self.now c.args.packet.now c.is_watched.ensures.watched c.mid.ensures c.pipe_of.ensures.pipe c.in_default.is))

pub returns-in_default-clause-drops : goal.returns-in_default-clause-drops
returns-in_default-clause-drops c =
    none_dropped c.args.self.now c.args.packet.now c.args.drops.now (sent c.args.self.now c.args.packet.now c.is_watched.ensures.watched c.mid.ensures c.pipe_of.ensures.pipe c.in_default.is)

pub returns-in-Kept-clause-after : goal.returns-in-Kept-clause-after
returns-in-Kept-clause-after c =
    routed c.in-Some.pipe c.args.self.now c.offer.new.self c.args.packet.now (sent c.args.self.now c.args.packet.now c.is_watched.ensures.watched c.mid.ensures c.pipe_of.ensures.pipe c.in-Some.is) c.offer.ensures.after

pub returns-in-Kept-clause-drops : goal.returns-in-Kept-clause-drops
returns-in-Kept-clause-drops c =
    none_lost c.in-Some.pipe c.args.self.now c.args.packet.now c.args.drops.now (sent c.args.self.now c.args.packet.now c.is_watched.ensures.watched c.mid.ensures c.pipe_of.ensures.pipe c.in-Some.is) c.in-Kept.ensures.answer

pub returns-in-Limit-clause-after : goal.returns-in-Limit-clause-after
returns-in-Limit-clause-after c =
    routed c.in-Some.pipe c.args.self.now c.offer.new.self c.args.packet.now (sent c.args.self.now c.args.packet.now c.is_watched.ensures.watched c.mid.ensures c.pipe_of.ensures.pipe c.in-Some.is) c.offer.ensures.after

pub returns-in-Limit-clause-drops : goal.returns-in-Limit-clause-drops
returns-in-Limit-clause-drops c =
    c.push_drop.ensures.after
    ∙ dropped c.in-Some.pipe c.args.self.now c.args.packet.now Limit c.args.drops.now (sent c.args.self.now c.args.packet.now c.is_watched.ensures.watched c.mid.ensures c.pipe_of.ensures.pipe c.in-Some.is) c.in-Limit.ensures.answer

pub returns-in-Full-clause-after : goal.returns-in-Full-clause-after
returns-in-Full-clause-after c =
    routed c.in-Some.pipe c.args.self.now c.offer.new.self c.args.packet.now (sent c.args.self.now c.args.packet.now c.is_watched.ensures.watched c.mid.ensures c.pipe_of.ensures.pipe c.in-Some.is) c.offer.ensures.after

pub returns-in-Full-clause-drops : goal.returns-in-Full-clause-drops
returns-in-Full-clause-drops c =
    c.push_drop-in-Full.ensures.after
    ∙ dropped c.in-Some.pipe c.args.self.now c.args.packet.now Full c.args.drops.now (sent c.args.self.now c.args.packet.now c.is_watched.ensures.watched c.mid.ensures c.pipe_of.ensures.pipe c.in-Some.is) c.in-Full.ensures.answer
