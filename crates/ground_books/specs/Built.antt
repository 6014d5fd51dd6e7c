-- The files that are written of a book.
use Rattle.std.specs.Prelude.{◌≡◌, ℕ, List, [], ◌∷◌, ◌++◌, map, codes, Result, Ok, Err}
use Rattle.std.proofs.Common.{Vec, Global}
use Rattle.load_books.specs.declared.fault.BookFault.{BookFault}
use Rattle.load_books.specs.declared.fault.BookError.{BookError}
use Rattle.load_books.specs.declared.fault.BookError.TheVariants as errors
use Rattle.load_books.specs.Files.{FileMade}
use Rattle.load_books.specs.declared.forms.BookForms.{BookForms}
use Rattle.load_books.specs.Books.{BookMade, book_said}
use Rattle.ground_checks.specs.Maps.{AreBookForms}
use Rattle.ground_books.specs.Manifests.{ending_of, manifest_said}
use Rattle.ground_books.specs.declared.book_files.BuiltFile.{BuiltFile}

-- a file by its name in the folder
pub record Built : Type 0 where
  pub name : List ℕ
  pub bytes : List ℕ

abbrev pub named : List ℕ → List ℕ → Built
named name bytes = record { name = name; bytes = bytes }

abbrev pub file_built : FileMade → Built
file_built m = named (m.name ++ ending_of m.kind) m.bytes

-- the files in the order of their parts, the scenario and the manifest
abbrev pub built_said : BookMade → List Built
built_said b = map file_built b.files ++ (named (b.name ++ codes ".scenario") b.scenario ∷ named (b.name ++ codes ".manifest") (manifest_said b) ∷ [])

-- ---- what the code gives

abbrev pub built_seen : BuiltFile → Built
built_seen f = named f.name.items f.bytes.items

-- the files of the book that is said; a fault is told only where there is one; and memory may end
abbrev pub GivesBuilt : Result BookMade BookFault → Result (Vec BuiltFile Global) BookError → Type 0
GivesBuilt said (Ok files) = (b : BookMade) × (said ≡ Ok b) × (map built_seen files.items ≡ built_said b)
GivesBuilt said (Err (errors.Memory e)) = Unit {0}
GivesBuilt said (Err (errors.Book fault)) = said ≡ Err fault

-- ---- the files of a text

-- the files that a text says as a book, in the words of the documents
pub record IsBuiltOf (text : List ℕ) (files : List Built) : Type 0 where
  pub forms : BookForms
  pub book : BookMade
  pub are_forms : AreBookForms forms
  pub is_said : book_said forms text ≡ Ok book
  pub are_files : files ≡ built_said book
