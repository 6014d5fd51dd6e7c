use Rattle.std.proofs.Common.{None, ap, subst, ◌∙◌}
use Rattle.table_files.specs.Headers.{Shows}
use Rattle.active_tables.specs.Tables.{TableSet, with_table, entry_fault}
use Rattle.active_tables.proofs.Files.{of_table, of_load}
use Rattle.active_tables.proofs.tables.Tables.store_file.Goals as goal

pub store-requires-clause-well : goal.store-requires-clause-well
store-requires-clause-well c =
    of_table None entry_fault c.requires.0 c.in-Table.payload.now c.in-Table.kind (subst (Shows c.requires.0) c.in-Table.is c.requires.1) ∙ c.requires.2

pub returns-in-Load : goal.returns-in-Load
returns-in-Load c = λ file shows well. ap (λ (set : TableSet). record c.args.self.now { set = set }) (of_load c.args.self.now.set (with_table c.args.self.now.set) file c.in-Load.bytes.now c.in-Load.at (subst (Shows file) c.in-Load.is shows))

pub returns-in-Table : goal.returns-in-Table
returns-in-Table c = λ file shows well. c.store.ensures ∙ ap (λ (set : TableSet). record c.args.self.now { set = set }) (of_table c.args.self.now.set (with_table c.args.self.now.set) file c.in-Table.payload.now c.in-Table.kind (subst (Shows file) c.in-Table.is shows))
