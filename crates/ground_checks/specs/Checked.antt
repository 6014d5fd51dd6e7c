-- What `check` finds in the files that are named.
use Rattle.std.specs.Prelude.{◌≡◌, ◌≢◌, ◌⊎◌, ℕ, ◌<◌, Bool, true, false, List, [], ◌∷◌, length, map, Option, Some, None, IsSome}
use Rattle.std.specs.List.{AllByRecursion}
use denote.Ref.{Bor}
use Rattle.memory_window.specs.declared.regions.Region.{Region}
use Rattle.ground_files.specs.declared.verb_status.Status.{Status}
use Rattle.ground_files.specs.declared.verb_status.Status.TheVariants as statuses
use Rattle.ground_files.specs.Workspaces.{Held, input_bytes, input_taken, inputs_taken}
use Rattle.ground_files.specs.Verbs.{KeepsAllFiles}
use Rattle.load_books.specs.Books.{is_book_text}
use Rattle.ground_checks.specs.declared.checking.Check.{Check}
use Rattle.ground_checks.specs.Faults.{fault_of}
use Rattle.ground_checks.specs.Maps.{IsMapOf, GivesNoMap}

-- what a writer holds is still told
abbrev pub StaysTold : Option (List ℕ) → Option (List ℕ) → Type 0
StaysTold old new = IsSome old → IsSome new

-- names, by their bytes
abbrev pub names_of : List (Bor (List ℕ)) → List (List ℕ)
names_of names = map (λ (name : Bor (List ℕ)). name.now) names

-- The inputs of these names, one read after another: none where there is no such file, and standard input is empty once it was read.
abbrev pub inputs_read : List (List ℕ) → Held → List (Option (List ℕ))
inputs_read [] held = []
inputs_read (name ∷ names) held = input_bytes name held ∷ inputs_read names (input_taken name held)

-- an input could be read, and has no fault unless it is a book
abbrev pub IsTaken : Option (List Region) → Option (List ℕ) → Type 0
IsTaken regions None = ⊥
IsTaken regions (Some file) = is_book_text file ≡ false → fault_of regions file ≡ None

-- an input could be read, and has a fault or is a book
abbrev pub IsInputRefused : Option (List Region) → Option (List ℕ) → Type 0
IsInputRefused regions None = ⊥
IsInputRefused regions (Some file) = is_book_text file ≡ false → fault_of regions file ≢ None

abbrev pub AreTaken : Option (List Region) → List (Option (List ℕ)) → Type 0
AreTaken regions read = AllByRecursion (IsTaken regions) read

abbrev pub IsAnyRefused : Option (List Region) → List (Option (List ℕ)) → Type 0
IsAnyRefused regions [] = ⊥
IsAnyRefused regions (input ∷ more) = IsInputRefused regions input ⊎ IsAnyRefused regions more

-- an input is a book
abbrev pub IsBookRead : Option (List ℕ) → Type 0
IsBookRead None = ⊥
IsBookRead (Some file) = is_book_text file ≡ true

abbrev pub IsAnyBook : List (Option (List ℕ)) → Type 0
IsAnyBook [] = ⊥
IsAnyBook (input ∷ more) = IsBookRead input ⊎ IsAnyBook more

-- whether a status may come of the files that are looked at, and of what is told of them
abbrev pub is_of_files : Status → Bool
is_of_files statuses.Done = true
is_of_files statuses.WordsRefused = true
is_of_files statuses.FileRefused = true
is_of_files statuses.ScenarioRefused = false
is_of_files statuses.ReadFailed = true
is_of_files statuses.WriteFailed = true
is_of_files statuses.NoMemory = true
is_of_files statuses.Unwanted = false

-- Inputs were looked at, with this status before them and this one behind them.
pub record Looked (regions : Option (List Region)) (first status : Status) (names : List (List ℕ)) (before : Held) (after : Option Held) : Type 0 where
  pub held : after ≡ Some (inputs_taken names before)
  pub done : status ≡ statuses.Done → (first ≡ statuses.Done) × AreTaken regions (inputs_read names before)
  pub refused : status ≡ statuses.FileRefused → (first ≡ statuses.FileRefused) ⊎ ((first ≡ statuses.Done) × IsAnyRefused regions (inputs_read names before))
  pub words : status ≡ statuses.WordsRefused → (first ≡ statuses.WordsRefused) ⊎ IsAnyBook (inputs_read names before)
  pub earlier : is_of_files status ≡ false → first ≡ status

-- Inputs were looked at, and their order was told.
pub record Checked (regions : Option (List Region)) (first : Status) (names : List (List ℕ)) (status : Status) (before : Held) (after : Option Held) : Type 0 where
  pub kept : KeepsAllFiles before after
  pub done : status ≡ statuses.Done → (first ≡ statuses.Done) × AreTaken regions (inputs_read names before)
  pub refused : status ≡ statuses.FileRefused → (first ≡ statuses.FileRefused) ⊎ ((first ≡ statuses.Done) × IsAnyRefused regions (inputs_read names before))
  pub words : status ≡ statuses.WordsRefused → (first ≡ statuses.WordsRefused) ⊎ ((100 < length names) ⊎ IsAnyBook (inputs_read names before))
  pub earlier : is_of_files status ≡ false → first ≡ status

-- ---- what is asked for

-- the map of the text of this name
pub record IsMapNamed (name : List ℕ) (before : Held) (regions : List Region) : Type 0 where
  pub text : List ℕ
  pub is_read : input_bytes name before ≡ Some text
  pub is_map : IsMapOf text regions

-- the text of this name is a book
pub record IsBookNamed (name : List ℕ) (before : Held) : Type 0 where
  pub text : List ℕ
  pub is_read : input_bytes name before ≡ Some text
  pub is_book : is_book_text text ≡ true

-- the text of this name gives no map
pub record IsMaplessNamed (name : List ℕ) (before : Held) : Type 0 where
  pub text : List ℕ
  pub is_read : input_bytes name before ≡ Some text
  pub is_mapless : GivesNoMap text

-- the map of memory that is asked: none where none is named
abbrev pub IsMapAsked : Option (Bor (List ℕ)) → Held → Option (List Region) → Type 0
IsMapAsked None before regions = regions ≡ None
IsMapAsked (Some name) before None = ⊥
IsMapAsked (Some name) before (Some regions) = IsMapNamed name.now before regions

-- the text whose map is asked is a book
abbrev pub IsBookAsked : Option (Bor (List ℕ)) → Held → Type 0
IsBookAsked None before = ⊥
IsBookAsked (Some name) before = IsBookNamed name.now before

-- the text whose map is asked gives none
abbrev pub IsMaplessAsked : Option (Bor (List ℕ)) → Held → Type 0
IsMaplessAsked None before = ⊥
IsMaplessAsked (Some name) before = IsMaplessNamed name.now before

-- the map was read, where one is named
abbrev pub map_taken : Option (Bor (List ℕ)) → Held → Held
map_taken None held = held
map_taken (Some name) held = input_taken name.now held

-- the inputs of the files that are named, behind that of the map
abbrev pub files_read : Check → Held → List (Option (List ℕ))
files_read check before = inputs_read (names_of check.files.now) (map_taken check.map before)

-- Files were checked, and none was written. Where the status is `Done`, each could be read and has no fault that the program would refuse;
-- where it is `FileRefused`, one has such a fault or is a book, or the map was that of a book; where it is `WordsRefused`, there are more than
-- the program takes, or one is a book; and where it is `ScenarioRefused`, the text whose map is asked gives none.
pub record ChecksFiles (check : Check) (result : Status) (before : Held) (after : Option Held) : Type 0 where
  pub kept : KeepsAllFiles before after
  pub done : result ≡ statuses.Done → (regions : Option (List Region)) × IsMapAsked check.map before regions × AreTaken regions (files_read check before)
  pub refused : result ≡ statuses.FileRefused → IsBookAsked check.map before ⊎ ((regions : Option (List Region)) × IsMapAsked check.map before regions × IsAnyRefused regions (files_read check before))
  pub words : result ≡ statuses.WordsRefused → (100 < length check.files.now) ⊎ IsAnyBook (files_read check before)
  pub scenario : result ≡ statuses.ScenarioRefused → IsMaplessAsked check.map before
  pub unjudged : result ≢ statuses.Unwanted
