use Rattle.scenario.specs.TextLaws.{items_are_good}
use Rattle.scenario.proofs.laws.items_are_good.Goals as goal

pub returns : goal.returns
returns c = items_are_good
