use Rattle.lc_watch.proofs.Serving.{active_behind}
use Rattle.lc_watch.proofs.laws.firing_makes_passive.Goals as goal

pub returns-clause-behind : goal.returns-clause-behind
returns-clause-behind c = λ setup history input place. active_behind setup history input place
