use Rattle.std.proofs.Common.{ℕ, List, length, ◌≤◌, ap, subst, sym, ◌∙◌}
use Rattle.table_files.specs.Files.{file_at}
use Rattle.table_files.proofs.Lists.{numbers_of_tables}
use Rattle.active_tables.specs.Tables.{with_file}
use Rattle.active_tables.proofs.tables.Tables.activate.Goals as goal

pub get-requires-clause-least : goal.get-requires-clause-least
get-requires-clause-least c = ((numbers_of_tables c.args.self.now.files c.args.file c.requires.0).0 c.requires.1).0

pub get-requires-clause-most : goal.get-requires-clause-most
get-requires-clause-most c =
    subst (λ (files : List (List ℕ)). c.args.file ≤ length files) (sym c.files-files.ensures) (((numbers_of_tables c.args.self.now.files c.args.file c.requires.0).0 c.requires.1).1)

pub returns : goal.returns
returns c = c.put_file.ensures.table _ c.get.ensures ∙ ap (λ (files : List (List ℕ)). record c.args.self.now { set = with_file c.args.self.now.set (file_at files c.args.file) }) c.files-files.ensures
