use Rattle.std.proofs.Common.{◌-◌, Some, arith}
use Rattle.sc_tables.proofs.Joined.{absolute_set}
use Rattle.sc_tables.proofs.tables.ScTables.put_ats.Goals as goal

pub returns : goal.returns
returns c = rw (← c.self.view_is) (absolute_set c.self.inside.ats c.self.inside.rts.all c.self.invariant.0 (c.args.n - 1) (Some c.args.ats) (omega arith))
