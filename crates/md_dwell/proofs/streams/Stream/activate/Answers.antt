use Rattle.std.proofs.Common.{refl, length}
use Rattle.md_dwell.proofs.Courses.{begun}
use Rattle.md_dwell.proofs.streams.Stream.activate.Goals as goal

pub returns-clause-stands : goal.returns-clause-stands
returns-clause-stands c = λ images. begun _ _ (length images) images _ c.plan-self.ensures c.enabled-enabled.ensures c.restart.ensures.next c.restart.ensures.wait c.restart.ensures.bytes refl
