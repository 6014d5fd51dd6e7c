use Rattle.packet_log.proofs.Stamps.{none_stamped}
use Rattle.packet_log.proofs.counts.Log.start.Goals as goal

pub returns : goal.returns
returns c = none_stamped
