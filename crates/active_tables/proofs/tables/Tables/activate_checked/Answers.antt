use Rattle.std.proofs.Common.{ℕ, List, length, ◌≤◌, ap, subst, sym, ◌∙◌}
use Rattle.table_files.specs.Files.{file_at}
use Rattle.table_files.proofs.Lists.{numbers_of_tables}
use Rattle.active_tables.specs.Tables.{with_file, tables_fault}
use Rattle.active_tables.proofs.GivenTables.{file_well}
use Rattle.active_tables.proofs.tables.Tables.activate_checked.Goals as goal

pub get-requires-clause-least : goal.get-requires-clause-least
get-requires-clause-least c = ((numbers_of_tables c.args.self.now.files c.args.file c.requires.named.0).0 c.requires.named.1).0

pub get-requires-clause-most : goal.get-requires-clause-most
get-requires-clause-most c =
    subst (λ (files : List (List ℕ)). c.args.file ≤ length files) (sym c.files-files.ensures) (((numbers_of_tables c.args.self.now.files c.args.file c.requires.named.0).0 c.requires.named.1).1)

pub store_file-requires : goal.store_file-requires
store_file-requires c = (_, c.get.ensures, file_well _ c.args.file (ap tables_fault c.files-files.ensures ∙ c.requires.well))

pub returns : goal.returns
returns c =
    c.store_file.ensures _ c.get.ensures (file_well _ c.args.file (ap tables_fault c.files-files.ensures ∙ c.requires.well))
    ∙ ap (λ (files : List (List ℕ)). record c.args.self.now { set = with_file c.args.self.now.set (file_at files c.args.file) }) c.files-files.ensures
