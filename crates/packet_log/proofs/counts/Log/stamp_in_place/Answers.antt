use Rattle.std.proofs.Common.{◌∙◌, sym}
use Rattle.packet_log.proofs.counts.Log.stamp_in_place.Goals as goal
use Rattle.packet_log.proofs.Stamps.{stamped_with}

pub returns-clause-value : goal.returns-clause-value
returns-clause-value c made s = c.set_sequence.ensures.bytes ∙ stamped_with made c.args.packet.now _ _ c.mid.ensures (c.next_count-count.ensures.value made s)

pub returns-clause-stands : goal.returns-clause-stands
returns-clause-stands c made s = c.next_count-count.ensures.stands made c.args.packet.now (sym c.mid.ensures) s
