-- Parts and files, written by hand.
use Rattle.std.specs.Prelude.{ℕ, List, [], ◌∷◌, codes}
use Rattle.load_books.specs.declared.titles.FileKind.{FileKind}
use Rattle.load_books.specs.declared.titles.FileKind.TheVariants as kinds
use Rattle.load_books.specs.Cuts.{Cut, part_of}
use Rattle.load_books.specs.Contents.{FileText}

unfoldable pub parts_text : List ℕ
parts_text = codes "book b\n\npart table a\nx y\n\n  part plan\nz"

unfoldable pub parts : Cut
parts = record { front = codes "book b\n\n"; parts = part_of 3 (codes "table" ∷ codes "a" ∷ []) (codes "x y\n\n") ∷ part_of 6 (codes "plan" ∷ []) (codes "z") ∷ [] }

abbrev file_named : FileKind → List ℕ → FileText
file_named kind name = record { number = 1; kind = kind; name = name; text = [] }

-- two tables and two loads
unfoldable pub files : List FileText
files = file_named kinds.Table (codes "day") ∷ file_named kinds.Load (codes "boot") ∷ file_named kinds.Table (codes "night") ∷ file_named kinds.Load (codes "patch") ∷ []
