-- Texts by their beginnings.
use Rattle.std.specs.Prelude.{◌≡◌, ◌⊎◌, ℕ, ◌+◌, ◌<◌, ◌^◌, true, false, Bool, List, ◌∷◌, ◌++◌, length, Option, Some, None, IsSome, []}
use Rattle.fsw_outside.specs.Files.{file_named}
use Rattle.table_texts.specs.Lines.{Numbered, kept_of}
use Rattle.load_books.specs.Books.{is_book_text}
use Rattle.load_books.specs.Scenarios.{epoch_said}
use Rattle.ground_files.specs.Workspaces.{Held, is_dash}
use Rattle.ground_runs.specs.declared.asked_run.Run.{Run}
use Rattle.ground_runs.specs.Refusals.{is_drill}

-- the lines of a text are counted in 32 bits
abbrev pub IsShort : List ℕ → Type 0
IsShort text = 1 + length text < 2 ^ 32

-- The scenario of a run is this text of a file: it isn't generated, nor standard input.
pub record HasText (run : Run) (held : Held) (text : List ℕ) : Type 0 where
  pub is_given : is_drill run.scenario.now ≡ false
  pub is_file : is_dash run.scenario.now ≡ false
  pub is_there : file_named held.files run.scenario.now ≡ Some text

-- The scenario of a run is a file whose text is a book, as far as lines are counted.
abbrev pub NamesBook : Run → Held → Type 0
NamesBook run held = (text : List ℕ) × HasText run held text × (IsShort text → is_book_text text ≡ true)

-- A file that the scenario of a run names is no book.
abbrev pub NamesNoBook : Run → Held → Type 0
NamesNoBook run held = (text : List ℕ) → HasText run held text → IsShort text → is_book_text text ≡ false

-- it is answered whether the scenario of a run is the name of a book
abbrev pub TellsBook : Run → Held → Bool → Type 0
TellsBook run held true = NamesBook run held
TellsBook run held false = NamesNoBook run held

-- This is the time of frame 0: that of the words, or else that of the scenario's text, where it is a file that says one.
abbrev pub TellsEpoch : Option ℕ → Run → Held → Option ℕ → Type 0
TellsEpoch (Some said) run held epoch = epoch ≡ Some said
TellsEpoch None run held epoch = ((text : List ℕ) → HasText run held text → IsShort text → epoch ≡ epoch_said text)
    × (IsSome epoch → (text : List ℕ) × HasText run held text)

-- ---- what the code gives

-- Two texts have one first line that says something.
pub record SharesFirst (one other : List ℕ) : Type 0 where
  pub first : Numbered
  pub behind_one : List Numbered
  pub behind_other : List Numbered
  pub in_one : kept_of 1 one ≡ first ∷ behind_one
  pub in_other : kept_of 1 other ≡ first ∷ behind_other

-- The beginning of a text has its first line that says something, or is the whole of it.
pub record BeginsText (front text : List ℕ) : Type 0 where
  pub more : List ℕ
  pub parts : text ≡ front ++ more
  pub enough : (front ≡ text) ⊎ SharesFirst front text

-- bytes were taken from the front of what is left, and put behind others; none were only where nothing was left
pub record TakesMore (now : Option (List ℕ)) (old new : List ℕ) (some : Bool) (rest : List ℕ) : Type 0 where
  pub more : List ℕ
  pub behind : List ℕ
  pub is_left : now ≡ Some behind
  pub parts : rest ≡ more ++ behind
  pub is_put : new ≡ old ++ more
  pub end : some ≡ false → behind ≡ []

-- the beginning of the scenario's text; none where it is no text of a file
abbrev pub GivesBeginning : Run → Held → Option (List ℕ) → Type 0
GivesBeginning run held None = (text : List ℕ) → HasText run held text → ⊥
GivesBeginning run held (Some front) = (text : List ℕ) × HasText run held text × (IsShort text → BeginsText front text)
