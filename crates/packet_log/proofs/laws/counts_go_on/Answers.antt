use Rattle.packet_log.proofs.Stamps.{count_none, count_same, count_other}
use Rattle.packet_log.proofs.laws.counts_go_on.Goals as goal

pub returns : goal.returns
returns c = record { none = count_none; same = count_same; other = count_other }
