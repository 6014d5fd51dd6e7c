use Rattle.std.proofs.Common.{arith}
use Rattle.subjects.proofs.HangingPlans.{hanging_whole}
use Rattle.subjects.proofs.hanging.HangingSubject.restart.Goals as goal

pub returns-clause-whole : goal.returns-clause-whole
returns-clause-whole c = hanging_whole c.self.inside.name c.self.inside.after 0 (let within = c.self.invariant.0 in omega arith)
