use Rattle.std.proofs.Common.{◌≡◌, ◌+◌, ap, subst, ◌∙◌}
use Rattle.subjects.specs.Plans.{Simulated, IsSimulated, reading_of, cycled}
use Rattle.subjects.proofs.HangingPlans.{hanging_whole, hanging_reads, hanging_rises, hanging_stays}
use Rattle.subjects.proofs.hanging.HangingSubject.cycle.Goals as goal

pub returns-then-reading-self-clause-reading : goal.returns-then-reading-self-clause-reading
returns-then-reading-self-clause-reading c =
    let s = c.self.inside in hanging_reads s.name s.after s.at c.self.invariant.0 ∙ ap reading_of c.self.view_is

pub returns-then-reading-self-clause-moved : goal.returns-then-reading-self-clause-moved
returns-then-reading-self-clause-moved c =
    let s = c.self.inside in hanging_rises s.name s.after s.at c.if-reading-self.true ∙ ap cycled c.self.view_is

pub returns-then-reading-self-clause-whole : goal.returns-then-reading-self-clause-whole
returns-then-reading-self-clause-whole c = let s = c.self.inside in hanging_whole s.name s.after (s.at + 1) c.if-reading-self.true

pub returns-else-reading-self-clause-reading : goal.returns-else-reading-self-clause-reading
returns-else-reading-self-clause-reading c =
    let s = c.self.inside in hanging_reads s.name s.after s.at c.self.invariant.0 ∙ ap reading_of c.self.view_is

pub returns-else-reading-self-clause-moved : goal.returns-else-reading-self-clause-moved
returns-else-reading-self-clause-moved c =
    let s = c.self.inside in
    subst (λ (seen : Simulated). seen ≡ cycled seen) c.self.view_is (hanging_stays s.name s.after s.at c.self.invariant.0 c.if-reading-self.false)

pub returns-else-reading-self-clause-whole : goal.returns-else-reading-self-clause-whole
returns-else-reading-self-clause-whole c =
    let s = c.self.inside in subst IsSimulated c.self.view_is (hanging_whole s.name s.after s.at c.self.invariant.0)
