use Rattle.scenario.specs.TextLaws.{open_is_bounded}
use Rattle.scenario.proofs.laws.open_texts_are_bounded.Goals as goal

pub returns : goal.returns
returns c = open_is_bounded
