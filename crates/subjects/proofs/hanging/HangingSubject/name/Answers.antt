use Rattle.std.proofs.Common.{subst}
use Rattle.subjects.specs.Plans.{IsSimulated}
use Rattle.subjects.proofs.HangingPlans.{hanging_whole}
use Rattle.subjects.proofs.hanging.HangingSubject.name.Goals as goal

pub returns-clause-whole : goal.returns-clause-whole
returns-clause-whole c =
    let s = c.self.inside in subst IsSimulated c.self.view_is (hanging_whole s.name s.after s.at c.self.invariant.0)
