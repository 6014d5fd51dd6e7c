use Rattle.scenario.specs.TextLaws.{given_are_good}
use Rattle.scenario.proofs.laws.given_items_are_good.Goals as goal

pub returns : goal.returns
returns c = given_are_good
