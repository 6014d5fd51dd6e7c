-- A book of two files, written by hand, and what is on the shelf.
use Rattle.std.specs.Prelude.{List, [], ◌∷◌, codes, false}
use Rattle.fsw_outside.specs.Files.{Stored}
use Rattle.load_books.specs.declared.titles.FileKind.TheVariants as kinds
use Rattle.load_books.specs.Books.{BookMade}
use Rattle.rehearsal.specs.Words.{Asked}

unfoldable pub two_files : BookMade
two_files = record {
  name = codes "day";
  files = record { kind = kinds.Table; name = codes "dwell"; bytes = 7 ∷ 8 ∷ [] } ∷ record { kind = kinds.Load; name = codes "patch"; bytes = 9 ∷ [] } ∷ [];
  scenario = codes "epoch 5";
}

unfoldable pub three_stored : List Stored
three_stored = record { name = codes "0"; bytes = codes "epoch 5" } ∷ record { name = codes "1"; bytes = 7 ∷ 8 ∷ [] } ∷ record { name = codes "2"; bytes = 9 ∷ [] } ∷ []

unfoldable pub all_asked : Asked
all_asked = record { workers = 1; subjects = false; scenario = codes "0"; files = codes "1" ∷ codes "2" ∷ [] }
