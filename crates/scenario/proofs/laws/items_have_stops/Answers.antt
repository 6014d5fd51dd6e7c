use Rattle.scenario.specs.TextLaws.{items_have_stops}
use Rattle.scenario.proofs.laws.items_have_stops.Goals as goal

pub returns-clause-items : goal.returns-clause-items
returns-clause-items c = λ t. (items_have_stops t).items

pub returns-clause-bad : goal.returns-clause-bad
returns-clause-bad c = λ t. (items_have_stops t).bad
