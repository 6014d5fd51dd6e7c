use Rattle.scenario.specs.TextLaws.{stops_stay}
use Rattle.scenario.proofs.laws.stops_stay.Goals as goal

pub returns : goal.returns
returns c = stops_stay
