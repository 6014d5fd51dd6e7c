use Rattle.scenario.specs.TextLaws.{closed_is}
use Rattle.scenario.proofs.laws.closed_is_finished.Goals as goal

pub returns : goal.returns
returns c = closed_is
