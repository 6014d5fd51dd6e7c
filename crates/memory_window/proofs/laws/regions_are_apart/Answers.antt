use Rattle.memory_window.proofs.Maps.{regions-apart}
use Rattle.memory_window.proofs.laws.regions_are_apart.Goals as goal

pub returns : goal.returns
returns c = regions-apart
