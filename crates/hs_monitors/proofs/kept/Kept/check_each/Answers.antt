use Rattle.hs_monitors.proofs.Passing.{just_kept}
use Rattle.hs_monitors.proofs.kept.Kept.check_each.Goals as goal

pub returns-clause-stands : goal.returns-clause-stands
returns-clause-stands c = λ checks places stood.
    just_kept c.args.tables.now.apps _ c.args.self.now.heads c.check_all.new.kept c.least_of-self.result stood.whole stood.heads
    (c.check_all.ensures.stands checks places (c.settled-watched.ensures c.args.tables.now.apps checks stood)) c.least_of-self.ensures.some c.least_of-self.ensures.least

pub returns-clause-performs : goal.returns-clause-performs
returns-clause-performs c = λ checks places stood. c.check_all.ensures.performs checks places (c.settled-watched.ensures c.args.tables.now.apps checks stood)
