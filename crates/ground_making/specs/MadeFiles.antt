-- What the verb that makes one file of another does.
use Rattle.std.specs.Prelude.{◌≡◌, ◌≢◌, ◌⊎◌, ℕ, true, List, Option, Some}
use Rattle.fsw_outside.specs.Files.{Stored}
use Rattle.ground_files.specs.declared.verb_status.Status.{Status}
use Rattle.ground_files.specs.declared.verb_status.Status.TheVariants as statuses
use Rattle.ground_files.specs.Workspaces.{Held, input_bytes, put_at}
use Rattle.ground_files.specs.Verbs.{MakesOutput, KeepsAllFiles, IsOver}
use Rattle.load_texts.specs.Loaded.{Named, file_asked}
use Rattle.load_texts.specs.Loads.{is_load_text}
use Rattle.ground_making.specs.declared.making.Making.{Making}
use Rattle.ground_making.specs.declared.making.Making.TheVariants as makings
use Rattle.ground_making.specs.declared.made_files.Wanted.{Wanted}
use Rattle.ground_making.specs.Made.{IsTextOf, IsScenarioIn, IsMadeAs}
use Rattle.ground_making.specs.Refused.{IsRefusedAs}
use Rattle.ground_making.specs.Causes.{IsCaused}
use Rattle.ground_making.specs.Named.{path_beside, IsFileIn, IsNoFileIn}

-- What is asked for: what is made, what times are counted from, and the names of what is read and what is written.
pub record Asked : Type 0 where
  pub making : Making
  pub epoch : Option ℕ
  pub file : List ℕ
  pub output : List ℕ

abbrev pub asked_by : Wanted → Asked
asked_by wanted = record { making = wanted.making; epoch = wanted.epoch; file = wanted.file.now; output = wanted.output.now }

-- what the bytes of a file of this name are made into, among these files
abbrev pub IsMadeAmong : Making → Option ℕ → List ℕ → List Stored → List ℕ → List ℕ → Type 0
IsMadeAmong makings.Table epoch name files bytes made = IsFileIn epoch name files bytes made
IsMadeAmong makings.Text epoch name files bytes made = IsTextOf epoch bytes made
IsMadeAmong makings.Scenario epoch name files bytes made = IsScenarioIn bytes made

-- what is made of the bytes that were read
abbrev pub IsMadeIn : Asked → Held → List ℕ → List ℕ → Type 0
IsMadeIn asked before bytes made = IsMadeAmong asked.making asked.epoch asked.file before.files bytes made

-- What was asked for was made of these bytes, and is in its place.
pub record PutsMade (asked : Asked) (bytes : List ℕ) (before : Held) (after : Option Held) : Type 0 where
  pub made : List ℕ
  pub is_made : IsMadeIn asked before bytes made
  pub is_put : after ≡ Some (put_at asked.output made before)

-- What was asked for was made of what its input has.
pub record IsMadeOfInput (asked : Asked) (before : Held) (made : List ℕ) : Type 0 where
  pub read : List ℕ
  pub is_input : input_bytes asked.file before ≡ Some read
  pub is_made : IsMadeAs asked.making asked.epoch read made

-- ---- why nothing is made

-- the bytes of a file of this name, among these files, of which nothing is made
abbrev pub IsRefusedAmong : Making → Option ℕ → List ℕ → List Stored → List ℕ → Type 0
IsRefusedAmong makings.Table epoch name files bytes = IsNoFileIn epoch name files bytes
IsRefusedAmong makings.Text epoch name files bytes = IsRefusedAs makings.Text epoch bytes
IsRefusedAmong makings.Scenario epoch name files bytes = IsRefusedAs makings.Scenario epoch bytes

-- nothing is made of the bytes that were read
abbrev pub IsRefusedIn : Asked → Held → List ℕ → Type 0
IsRefusedIn asked before bytes = IsRefusedAmong asked.making asked.epoch asked.file before.files bytes

-- Nothing is made of what its input has.
pub record IsRefusedInput (asked : Asked) (before : Held) : Type 0 where
  pub read : List ℕ
  pub is_input : input_bytes asked.file before ≡ Some read
  pub is_refused : IsRefusedIn asked before read

-- The output is the file that a text asks for.
abbrev pub IsOverAsked : Asked → Held → List ℕ → Type 0
IsOverAsked asked held text = (named : Named) × (file_asked text ≡ Some named) × IsOver asked.output (path_beside asked.file named.path) held

-- The output is the file that is asked for by the bytes that were read, which are the text of a load.
pub record IsOverIn (asked : Asked) (held : Held) (text : List ℕ) : Type 0 where
  pub making : asked.making ≡ makings.Table
  pub load : is_load_text text ≡ true
  pub over : IsOverAsked asked held text

-- The output is the file that the input asks for.
pub record IsOverNamed (asked : Asked) (before : Held) : Type 0 where
  pub read : List ℕ
  pub is_input : input_bytes asked.file before ≡ Some read
  pub is_over : IsOverIn asked before read

-- The output is a file that is read: the input, or the file that the input asks for.
abbrev pub IsOverRead : Asked → Held → Type 0
IsOverRead asked before = IsOver asked.output asked.file before ⊎ IsOverNamed asked before

-- How the verb ends: what was asked for was made of the input, and is in its place, or no file is another; and its status has its cause.
pub record EndsMaking (asked : Asked) (status : Status) (before : Held) (after : Option Held) : Type 0 where
  pub done : status ≡ statuses.Done → MakesOutput asked.file asked.output (IsMadeIn asked) before after
  pub undone : status ≢ statuses.Done → KeepsAllFiles before after
  pub cause : IsCaused (IsOverRead asked before) (IsRefusedInput asked before) status
