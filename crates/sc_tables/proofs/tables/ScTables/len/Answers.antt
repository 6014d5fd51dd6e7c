use Rattle.sc_tables.proofs.Joined.{are_tables}
use Rattle.sc_tables.proofs.tables.ScTables.len.Goals as goal

pub returns-in-Some-clause-tables : goal.returns-in-Some-clause-tables
returns-in-Some-clause-tables c = rw (← c.self.view_is) (are_tables c.self.inside.ats c.self.inside.rts.all c.self.invariant.0 c.self.invariant.1)

pub returns-in-None-clause-tables : goal.returns-in-None-clause-tables
returns-in-None-clause-tables c = rw (← c.self.view_is) (are_tables c.self.inside.ats c.self.inside.rts.all c.self.invariant.0 c.self.invariant.1)

pub returns-in-Some-get-clause-tables : goal.returns-in-Some-get-clause-tables
returns-in-Some-get-clause-tables c = rw (← c.self.view_is) (are_tables c.self.inside.ats c.self.inside.rts.all c.self.invariant.0 c.self.invariant.1)

pub returns-in-None-get-clause-tables : goal.returns-in-None-get-clause-tables
returns-in-None-get-clause-tables c = rw (← c.self.view_is) (are_tables c.self.inside.ats c.self.inside.rts.all c.self.invariant.0 c.self.invariant.1)
