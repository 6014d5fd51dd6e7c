-- Files on a shelf in memory, each under its number, and the words that name them.
use Rattle.std.specs.Prelude.{◌≡◌, ℕ, ◌+◌, List, [], ◌∷◌, ◌++◌, map, decimal, IsFalse, None}
use Rattle.fsw_outside.specs.Files.{Stored, Content}
use Rattle.fsw_outside.specs.MemShelf.{content_of, has_open_file, fault_count}
use Rattle.fsw_outside.specs.declared.mem_shelf.MemShelf.{MemShelf}
use Rattle.load_books.specs.declared.files.BookFile.{BookFile}

-- a file whose name is a number
abbrev pub under_number : ℕ → List ℕ → Stored
under_number n bytes = record { name = decimal n; bytes = bytes }

-- files by their numbers, the first of which is this one
unfoldable pub by_numbers : ℕ → List (List ℕ) → List Stored
by_numbers n [] = []
by_numbers n (bytes ∷ more) = under_number n bytes ∷ by_numbers (n + 1) more

abbrev pub stored_names : List Stored → List (List ℕ)
stored_names files = map (λ (f : Stored). f.name) files

-- what a shelf tells of which no file was opened yet
abbrev pub never_opened : List Stored → Content
never_opened files = record { files = files; rest = []; openings = 0; name = None }

-- ---- what the code gives

abbrev pub file_bytes : BookFile → List ℕ
file_bytes f = f.bytes.items

-- one more file, and its name behind the words
pub record IsAdded (number : ℕ) (bytes : List ℕ) (old new : MemShelf) (before now : List (List ℕ)) : Type 0 where
  pub content : content_of new ≡ record (content_of old) { files = (content_of old).files ++ under_number number bytes ∷ [] }
  pub faults : fault_count new ≡ fault_count old
  pub closed : IsFalse (has_open_file new)
  pub words : now ≡ before ++ decimal number ∷ []

-- these files by their numbers, and their names behind the words in front
pub record HasFiles (front : List (List ℕ)) (files : List (List ℕ)) (shelf : MemShelf) (given : List (List ℕ)) : Type 0 where
  pub content : content_of shelf ≡ never_opened (by_numbers 0 files)
  pub faults : fault_count shelf ≡ 0
  pub closed : IsFalse (has_open_file shelf)
  pub words : given ≡ front ++ stored_names (by_numbers 0 files)
