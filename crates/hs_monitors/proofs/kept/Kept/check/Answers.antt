use Rattle.std.proofs.Common.{◌+◌, ◌<◌, arith}
use Rattle.hs_actions.proofs.Series.{performs_none}
use Rattle.hs_monitors.proofs.Passing.{none_acts}
use Rattle.hs_monitors.proofs.kept.Kept.check.Goals as goal

pub returns-then-self-clause-performs : goal.returns-then-self-clause-performs
returns-then-self-clause-performs c = λ checks places stood.
    let soon : c.args.self.now.passed + 1 < c.args.self.now.least = omega arith in
    performs_none c.args.tables.now.acts c.args.now _ c.args.actions.now c.args.out.now (λ k. none_acts c.args.tables.now.apps checks c.args.counters.now c.args.self.now stood soon k)

pub returns-then-self-clause-stands : goal.returns-then-self-clause-stands
returns-then-self-clause-stands c = λ checks places stood. c.pass.ensures checks stood
