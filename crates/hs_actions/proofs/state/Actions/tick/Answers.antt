use Rattle.std.proofs.Common.{refl}
use Rattle.hs_actions.proofs.Paths.{stands_next}
use Rattle.hs_actions.proofs.state.Actions.tick.Goals as goal

pub returns : goal.returns
returns c = λ acts past stood. stands_next acts past c.args.self.now _ c.cool.ensures refl refl refl stood
