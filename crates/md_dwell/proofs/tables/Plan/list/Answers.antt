use Rattle.std.proofs.Common.{arith}
use Rattle.md_dwell.proofs.Lists.{list_short, list_front}
use Rattle.md_dwell.proofs.tables.Plan.list.Goals as goal

pub shared_ref_as_front-result : goal.shared_ref_as_front-result
shared_ref_as_front-result c = omega (arith, list_short c.self.inside.entries, c.self.invariant)

pub returns-clause-list : goal.returns-clause-list
returns-clause-list c = rw (← c.self.view_is) (list_front c.self.inside.entries c.self.inside.count c.self.invariant.1)
