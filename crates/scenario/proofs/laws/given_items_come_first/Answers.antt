use Rattle.scenario.specs.TextLaws.{given_first}
use Rattle.scenario.proofs.laws.given_items_come_first.Goals as goal

pub returns : goal.returns
returns c = given_first
