use Rattle.std.proofs.Common.{◌∙◌, ap, subst, sym}
use Rattle.packet_log.specs.Counts.{count_place}
use Rattle.packet_log.specs.Standing.{Stands}
use Rattle.packet_log.proofs.Stamps.{one_stamped}
use Rattle.packet_log.proofs.counts.Log.next_count.Goals as goal

pub returns-clause-value : goal.returns-clause-value
returns-clause-value c made s = (subst (Stands made) (sym c.self.view_is) s).each c.args.id c.count_place-place.result c.count_place-place.ensures.place

pub returns-clause-stands : goal.returns-clause-stands
returns-clause-stands c made packet id s =
    one_stamped made c.self.inside.counts packet c.count_place-place.result (subst (Stands made) (sym c.self.view_is) s) (ap count_place id ∙ c.count_place-place.ensures.place)
