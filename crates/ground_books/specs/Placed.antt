-- Where the files of a book are put, and what is held then.
use Rattle.std.specs.Prelude.{◌≡◌, ◌≢◌, ◌⊎◌, ℕ, true, nat_eq, if◌then◌else◌, List, [], ◌∷◌, ◌++◌, map, take, codes, Option, Some, None, option_map, option_and_then, string_bytes, Any}
use Rattle.std.specs.List.{ends_with}
use Rattle.ground_files.specs.declared.verb_status.Status.{Status}
use Rattle.ground_files.specs.declared.verb_status.Status.TheVariants as statuses
use Rattle.ground_files.specs.Workspaces.{Held, files_of, is_dash, input_bytes, input_taken, put_at}
use Rattle.ground_files.specs.Verbs.{KeepsAllFiles, IsOver}
use Rattle.load_books.specs.declared.fault.BookFault.{BookFault}
use Rattle.ground_making.specs.Refused.{IsLong, IsNoBook}
use Rattle.ground_making.specs.Causes.{IsCaused}
use Rattle.ground_books.specs.declared.building.Build.{Build}
use Rattle.ground_books.specs.declared.building.Written.{Written}
use Rattle.ground_books.specs.Built.{Built, named, IsBuiltOf}

-- the path of a file in a folder, or in the current one where none is named
abbrev pub path_in : Option (List ℕ) → List ℕ → List ℕ
path_in None name = name
path_in (Some folder) name = if ends_with nat_eq folder (codes "/") then folder ++ name else folder ++ (codes "/" ++ name)

-- a file at its path
abbrev pub placed_in : Option (List ℕ) → Built → Built
placed_in folder file = named (path_in folder file.name) file.bytes

-- files were put at their paths, one after another
abbrev pub put_all : List Built → Held → Held
put_all [] held = held
put_all (file ∷ files) held = put_all files (put_at file.name file.bytes held)

-- The first of the files were put at their paths, and no other file is another.
pub record PutsFirst (files : List Built) (before : Held) (after : Option Held) : Type 0 where
  pub count : ℕ
  pub are_put : option_map files_of after ≡ Some (put_all (take count files) before).files

-- how it ended to write files
pub record Puts (files : List Built) (result : Status) (before : Held) (after : Option Held) : Type 0 where
  pub done : result ≡ statuses.Done → after ≡ Some (put_all files before)
  pub failed : result ≢ statuses.Done → PutsFirst files before after
  pub kept : result ≢ statuses.Done → result ≢ statuses.WriteFailed → KeepsAllFiles before after

-- ---- what the code has

-- no file is another
abbrev pub KeepsFilesOnly : Option Held → Option Held → Type 0
KeepsFilesOnly old new = option_map files_of new ≡ option_map files_of old

-- a file that is written, by its path
abbrev pub written_as : {D : Type 0} → Written D → Built
written_as file = named (string_bytes file.path) file.bytes.items

-- its draft has its bytes
abbrev pub IsDrafted : {D : Type 0} → (D → Option (List ℕ)) → Written D → Type 0
IsDrafted contents file = option_and_then contents file.draft ≡ Some file.bytes.items

-- ---- the verb

-- the text of a book was read, and says these files, each at its path
pub record IsBookRead (build : Build) (before : Held) (files : List Built) : Type 0 where
  pub text : List ℕ
  pub built : List Built
  pub is_read : input_bytes build.book.now before ≡ Some text
  pub is_built : IsBuiltOf text built
  pub are_placed : files ≡ map (placed_in (option_map (λ folder. folder.now) build.folder)) built

-- the folder is `-`, which stands for a standard stream
abbrev pub IsStreamAsked : Option (List ℕ) → Type 0
IsStreamAsked None = ⊥
IsStreamAsked (Some folder) = is_dash folder ≡ true

-- one of the files, at its path, is an input of this name
abbrev pub IsOneOver : List ℕ → Held → List Built → Type 0
IsOneOver input held files = Any (λ (file : Built). IsOver file.name input held) files

-- one of the files that the book says, at its path, is the book
abbrev pub IsOverBook : Build → Held → Type 0
IsOverBook build before = (files : List Built) × IsBookRead build before files × IsOneOver build.book.now before files

-- a text is refused as a book: it has over 4,294,967,294 bytes, or a fault
abbrev pub IsTextRefused : List ℕ → Type 0
IsTextRefused text = IsLong text ⊎ ((fault : BookFault) × IsNoBook text fault)

-- the text of a book was read, and is refused
pub record IsBookRefused (build : Build) (before : Held) : Type 0 where
  pub text : List ℕ
  pub is_read : input_bytes build.book.now before ≡ Some text
  pub is_refused : IsTextRefused text

-- What `build` did. Where it is `Done`, all files that the book says were put at their paths, and nothing else changed but that standard input
-- was read where it is the book. Where a file can't be written, the first of them were put, or none. Else no file is another. And the
-- status has its cause.
pub record Builds (build : Build) (result : Status) (before : Held) (after : Option Held) : Type 0 where
  pub done : result ≡ statuses.Done → (files : List Built) × IsBookRead build before files × (after ≡ Some (put_all files (input_taken build.book.now before)))
  pub failed : result ≢ statuses.Done → KeepsAllFiles before after ⊎ ((files : List Built) × IsBookRead build before files × PutsFirst files (input_taken build.book.now before) after)
  pub kept : result ≢ statuses.Done → result ≢ statuses.WriteFailed → KeepsAllFiles before after
  pub cause : IsCaused (IsStreamAsked (option_map (λ folder. folder.now) build.folder) ⊎ IsOverBook build before) (IsBookRefused build before) result
