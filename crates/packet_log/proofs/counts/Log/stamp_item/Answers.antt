use Rattle.packet_log.proofs.counts.Log.stamp_item.Goals as goal

pub returns-in-Made-clause-stands : goal.returns-in-Made-clause-stands
returns-in-Made-clause-stands c made s = rw c.in-Made.is (c.stamp_in_place.ensures.stands made s)
