use Rattle.std.proofs.Common.{◌∙◌, sym}
use Rattle.packet_log.proofs.Stamps.{place_there, place_within}
use Rattle.packet_log.proofs.counts.count_place.Goals as goal

pub unreachable-requires : goal.unreachable-requires
unreachable-requires c = place_there c.args.id c.requires (sym c.find_place.ensures ∙ c.in-None.is)

pub returns-clause-bound : goal.returns-clause-bound
returns-clause-bound c = place_within c.args.id c.in-Some.place (sym c.find_place.ensures ∙ c.in-Some.is)
