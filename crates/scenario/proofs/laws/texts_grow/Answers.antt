use Rattle.scenario.specs.TextLaws.{texts_grow}
use Rattle.scenario.proofs.laws.texts_grow.Goals as goal

pub returns : goal.returns
returns c = texts_grow
