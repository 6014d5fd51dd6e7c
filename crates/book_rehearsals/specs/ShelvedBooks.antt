-- A book on a shelf in memory.
use Rattle.std.specs.Prelude.{◌≡◌, ℕ, List, ◌∷◌, ◌++◌, map, decimal, Some, Result, Ok, Err}
use Rattle.fsw_outside.specs.Files.{Stored, file_named}
use Rattle.fsw_outside.specs.MemShelf.{told_content}
use Rattle.fsw_outside.specs.declared.mem_shelf.MemShelf.{MemShelf}
use Rattle.load_books.specs.declared.fault.BookFault.{BookFault}
use Rattle.load_books.specs.declared.fault.BookError.{BookError}
use Rattle.load_books.specs.declared.fault.BookError.TheVariants as errors
use Rattle.load_books.specs.Files.{FileMade}
use Rattle.load_books.specs.Books.{BookMade, book_made}
use Rattle.book_rehearsals.specs.Shelves.{by_numbers, stored_names, never_opened}
use Rattle.book_rehearsals.specs.declared.shelved_books.ShelvedBook.{ShelvedBook}

-- the files of a book in the order of their parts
abbrev pub files_in_book : BookMade → List (List ℕ)
files_in_book b = map (λ (m : FileMade). m.bytes) b.files

-- the scenario under number 0, and the files from number 1 on
abbrev pub stored_in_book : BookMade → List Stored
stored_in_book b = by_numbers 0 (b.scenario ∷ files_in_book b)

abbrev pub scenario_name : List ℕ
scenario_name = decimal 0

abbrev pub names_in_book : BookMade → List (List ℕ)
names_in_book b = stored_names (by_numbers 1 (files_in_book b))

-- A book on a shelf, and the words that ask for its rehearsal.
pub record IsShelved (b : BookMade) (front : List (List ℕ)) (shelf : MemShelf) (given : List (List ℕ)) : Type 0 where
  -- Behind the words in front stand the scenario's name, and the names of the files in the order of their parts.
  pub words : given ≡ front ++ scenario_name ∷ names_in_book b
  -- The shelf tells the scenario and the files, of which none was opened yet.
  pub told : told_content shelf ≡ Some (never_opened (stored_in_book b))
  -- Under the scenario's name stands the scenario, and under the name of each file the file.
  pub scenario : file_named (stored_in_book b) scenario_name ≡ Some b.scenario
  pub files : map (file_named (stored_in_book b)) (names_in_book b) ≡ map Some (files_in_book b)

-- ---- what the code gives

-- the book that is said is on the shelf; a fault is told only where there is one; and memory may end
abbrev pub GivesShelved : Result BookMade BookFault → List (List ℕ) → List (List ℕ) → Result ShelvedBook BookError → Type 0
GivesShelved said front given (Ok s) = (said ≡ Ok (book_made s.book)) × IsShelved (book_made s.book) front s.shelf given
GivesShelved said front given (Err (errors.Memory e)) = Unit {0}
GivesShelved said front given (Err (errors.Book fault)) = said ≡ Err fault
