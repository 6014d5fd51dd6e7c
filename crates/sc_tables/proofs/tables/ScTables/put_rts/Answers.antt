use Rattle.std.proofs.Common.{◌≡◌, ◌+◌, ◌-◌, Some, arith}
use Rattle.sc_tables.proofs.Joined.{relative_set}
use Rattle.sc_tables.proofs.tables.ScTables.put_rts.Goals as goal

pub returns : goal.returns
returns c =
    let there : c.args.n + 1 - 2 ≡ c.args.n - 1 = omega arith in
    rw (← c.self.view_is, c.put.ensures.set, ← there) (relative_set c.self.inside.ats c.self.inside.rts.all c.self.invariant.0 (c.args.n + 1) (Some c.args.rts) (omega arith))
