use Rattle.std.proofs.Common.{List, ℕ, false, subst, ◌∙◌}
use Rattle.table_files.specs.Headers.{Shows}
use Rattle.table_files.specs.declared.kinds.TableKind.{TableKind}
use Rattle.active_tables.specs.Tables.{is_limits}
use Rattle.active_tables.proofs.Files.{of_table, of_load}
use Rattle.active_tables.proofs.watching.names_limits.Goals as goal

pub returns-in-Load : goal.returns-in-Load
returns-in-Load c = λ file shows. of_load false (λ (kind : TableKind) (payload : List ℕ). is_limits kind) file c.in-Load.bytes.now c.in-Load.at (subst (Shows file) c.in-Load.is shows)

pub returns-in-Table : goal.returns-in-Table
returns-in-Table c = λ file shows. c.is_limits.ensures ∙ of_table false (λ (kind : TableKind) (payload : List ℕ). is_limits kind) file c.in-Table.payload.now c.in-Table.kind (subst (Shows file) c.in-Table.is shows)
