use Rattle.std.proofs.Common.{refl}
use Rattle.packet_log.specs.Blocks.{late_in, ends_from}
use Rattle.packet_log.proofs.laws.worked_cut.Goals as goal

pub returns : goal.returns
unfolding late_in ends_from
returns c = record { ends = refl; at_four = refl; at_three = refl; at_two = refl }
