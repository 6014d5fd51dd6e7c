use Rattle.std.proofs.Common.{refl, arith}
use Rattle.hs_actions.proofs.Paths.{stands_not, goes_no_reset, goes_reset, stands_reset}
use Rattle.hs_actions.proofs.state.Actions.reset.Goals as goal

pub returns-then-self-clause-stands : goal.returns-then-self-clause-stands
returns-then-self-clause-stands c = λ acts past a is stood.
    let self = c.args.self.now in
    stands_not acts past self a (goes_no_reset acts past self a is (omega arith) stood) stood

pub returns-then-self-clause-went : goal.returns-then-self-clause-went
returns-then-self-clause-went c = λ acts past a is stood. goes_no_reset acts past c.args.self.now a is (omega arith) stood

pub returns-clause-stands : goal.returns-clause-stands
returns-clause-stands c = λ acts past a is stood. stands_reset acts past c.args.self.now a _ is (omega arith) refl refl refl refl stood

pub returns-clause-went : goal.returns-clause-went
returns-clause-went c = λ acts past a is stood. goes_reset acts past c.args.self.now a is (omega arith) stood
