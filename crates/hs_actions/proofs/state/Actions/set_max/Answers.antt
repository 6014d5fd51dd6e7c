use Rattle.std.proofs.Common.{refl}
use Rattle.hs_actions.proofs.Paths.{stands_limited}
use Rattle.hs_actions.proofs.state.Actions.set_max.Goals as goal

pub returns : goal.returns
returns c = λ acts past stood. stands_limited acts past c.args.self.now _ c.args.n refl refl refl refl stood
