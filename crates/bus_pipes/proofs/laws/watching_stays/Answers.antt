use Rattle.bus_pipes.proofs.Deliveries.{watched_after}
use Rattle.bus_pipes.proofs.laws.watching_stays.Goals as goal

pub returns : goal.returns
returns c = watched_after
