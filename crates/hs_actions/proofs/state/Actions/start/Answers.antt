use Rattle.std.proofs.Common.{refl}
use Rattle.hs_actions.proofs.Paths.{stands_first}
use Rattle.hs_actions.proofs.state.Actions.start.Goals as goal

pub returns : goal.returns
returns c = λ acts. stands_first acts c.args.made c.args.max _ refl refl refl refl
