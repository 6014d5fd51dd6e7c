use Rattle.lc_watch.proofs.Leaving.{leaves_one}
use Rattle.lc_watch.proofs.laws.expressions_leave_one.Goals as goal

pub returns : goal.returns
returns c = λ value words is other. leaves_one value words is other
