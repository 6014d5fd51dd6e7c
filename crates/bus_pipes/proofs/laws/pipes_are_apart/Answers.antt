use Rattle.bus_pipes.proofs.Deliveries.{packets_in_same, packets_in_other}
use Rattle.bus_pipes.proofs.laws.pipes_are_apart.Goals as goal

pub returns : goal.returns
returns c = record { same = packets_in_same; other = packets_in_other }
