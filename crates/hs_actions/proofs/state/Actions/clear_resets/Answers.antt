use Rattle.std.proofs.Common.{refl}
use Rattle.hs_actions.proofs.Paths.{stands_cleared}
use Rattle.hs_actions.proofs.state.Actions.clear_resets.Goals as goal

pub returns : goal.returns
returns c = λ acts past stood. stands_cleared acts past c.args.self.now _ refl refl refl refl stood
