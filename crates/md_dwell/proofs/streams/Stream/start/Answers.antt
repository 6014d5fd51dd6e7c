use Rattle.std.proofs.Common.{refl, []}
use Rattle.md_dwell.proofs.Courses.{begun}
use Rattle.md_dwell.proofs.streams.Stream.start.Goals as goal

pub returns-clause-stands : goal.returns-clause-stands
returns-clause-stands c = begun _ _ 0 [] _ c.plan.ensures c.enabled.ensures refl refl c.new.ensures refl
