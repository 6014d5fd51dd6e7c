use Rattle.std.proofs.Common.{None, subst, ◌∙◌}
use Rattle.table_files.specs.Headers.{Shows}
use Rattle.active_tables.specs.Tables.{refused_entry}
use Rattle.active_tables.proofs.Files.{of_table, of_load}
use Rattle.active_tables.proofs.giving.refused_in.Goals as goal

pub returns-in-Load : goal.returns-in-Load
returns-in-Load c = λ file shows. of_load None (refused_entry c.args.map.now) file c.in-Load.bytes.now c.in-Load.at (subst (Shows file) c.in-Load.is shows)

pub returns-in-Table : goal.returns-in-Table
returns-in-Table c = λ file shows. c.refused_entry.ensures ∙ of_table None (refused_entry c.args.map.now) file c.in-Table.payload.now c.in-Table.kind (subst (Shows file) c.in-Table.is shows)
