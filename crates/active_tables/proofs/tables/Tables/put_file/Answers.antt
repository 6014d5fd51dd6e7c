use Rattle.std.proofs.Common.{None, ap, subst, ◌∙◌}
use Rattle.table_files.specs.Headers.{Shows}
use Rattle.active_tables.specs.Tables.{TableSet, with_table, entry_fault}
use Rattle.active_tables.proofs.Files.{of_table, of_load}
use Rattle.active_tables.proofs.tables.Tables.put_file.Goals as goal

pub returns-in-Load-clause-table : goal.returns-in-Load-clause-table
returns-in-Load-clause-table c = λ file shows. ap (λ (set : TableSet). record c.args.self.now { set = set }) (of_load c.args.self.now.set (with_table c.args.self.now.set) file c.in-Load.bytes.now c.in-Load.at (subst (Shows file) c.in-Load.is shows))

pub returns-in-Load-clause-fault : goal.returns-in-Load-clause-fault
returns-in-Load-clause-fault c = λ file shows. of_load None entry_fault file c.in-Load.bytes.now c.in-Load.at (subst (Shows file) c.in-Load.is shows)

pub returns-in-Table-clause-table : goal.returns-in-Table-clause-table
returns-in-Table-clause-table c = λ file shows. c.put.ensures.table ∙ ap (λ (set : TableSet). record c.args.self.now { set = set }) (of_table c.args.self.now.set (with_table c.args.self.now.set) file c.in-Table.payload.now c.in-Table.kind (subst (Shows file) c.in-Table.is shows))

pub returns-in-Table-clause-fault : goal.returns-in-Table-clause-fault
returns-in-Table-clause-fault c = λ file shows. c.put.ensures.fault ∙ of_table None entry_fault file c.in-Table.payload.now c.in-Table.kind (subst (Shows file) c.in-Table.is shows)
