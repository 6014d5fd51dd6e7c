-- What a comparison of two logs leaves.
use Rattle.std.specs.Prelude.{◌≡◌, ℕ, Bool, true, false, ◌&&◌, List, Option, Some, None, ◌⊎◌}
use Rattle.ground_files.specs.Workspaces.{Held, is_dash, input_bytes, input_taken, put_at}
use Rattle.ground_files.specs.Verbs.{KeepsAllFiles, IsOver}
use Rattle.ground_files.specs.declared.verb_status.Status.{Status}
use Rattle.ground_files.specs.declared.verb_status.Status.TheVariants as statuses
use Rattle.ground_logs.specs.Making.{lines_of, is_log}
use Rattle.ground_differences.specs.declared.comparing.LogPair.{LogPair}
use Rattle.ground_differences.specs.Same.{AreSameLines}

-- the status of a comparison, by whether all lines are a log's, and by the first frame that differs
abbrev pub status_found : Bool → Option ℕ → Status
status_found false first = statuses.FileRefused
status_found true None = statuses.Done
status_found true (Some frame) = statuses.Unwanted

-- An output was put into its place.
pub record PutsOutput (output : List ℕ) (before : Held) (after : Option Held) : Type 0 where
  pub made : List ℕ
  pub is_put : after ≡ Some (put_at output made before)

-- What a status says of what was held before the output was begun, and is now.
abbrev pub HasTold : List ℕ → Status → Held → Option Held → Type 0
HasTold output statuses.Done = PutsOutput output
HasTold output statuses.Unwanted = PutsOutput output
HasTold output statuses.FileRefused = PutsOutput output
HasTold output statuses.WordsRefused = λ before after. ⊥
HasTold output statuses.ScenarioRefused = λ before after. ⊥
HasTold output statuses.ReadFailed = KeepsAllFiles
HasTold output statuses.WriteFailed = KeepsAllFiles
HasTold output statuses.NoMemory = KeepsAllFiles

-- both inputs were taken
abbrev pub logs_taken : LogPair → Held → Held
logs_taken pair held = input_taken pair.other.now (input_taken pair.one.now held)

-- Two texts are logs, whose lines are the same but for sequence counts.
pub record AreSameLogs (one other : List ℕ) : Type 0 where
  pub one_log : is_log one ≡ true
  pub other_log : is_log other ≡ true
  pub same : AreSameLines (lines_of one) (lines_of other)

-- Two texts are logs, whose lines differ in more than sequence counts.
pub record AreOtherLogs (one other : List ℕ) : Type 0 where
  pub one_log : is_log one ≡ true
  pub other_log : is_log other ≡ true
  pub differ : ¬ AreSameLines (lines_of one) (lines_of other)

-- One of two texts has a line that is none of a log's, or ends within a line.
abbrev pub AreNotLogs : List ℕ → List ℕ → Type 0
AreNotLogs one other = (is_log one && is_log other) ≡ false

-- what a status says of the texts of two logs
abbrev pub IsSaidOf : Status → List ℕ → List ℕ → Type 0
IsSaidOf statuses.Done = AreSameLogs
IsSaidOf statuses.Unwanted = AreOtherLogs
IsSaidOf statuses.FileRefused = AreNotLogs
IsSaidOf statuses.WordsRefused = λ one other. ⊥
IsSaidOf statuses.ScenarioRefused = λ one other. ⊥
IsSaidOf statuses.ReadFailed = λ one other. Unit {0}
IsSaidOf statuses.WriteFailed = λ one other. Unit {0}
IsSaidOf statuses.NoMemory = λ one other. Unit {0}

-- The bytes of two logs, those of the second once the first was taken, and what is said of them.
pub record OfLogs (pair : LogPair) (says : List ℕ → List ℕ → Type 0) (before : Held) : Type 0 where
  pub one : List ℕ
  pub other : List ℕ
  pub is_one : input_bytes pair.one.now before ≡ Some one
  pub is_other : input_bytes pair.other.now (input_taken pair.one.now before) ≡ Some other
  pub said : says one other

-- Two logs were compared: this is so of them, and their differences were put into the output.
pub record Compares (pair : LogPair) (says : List ℕ → List ℕ → Type 0) (before : Held) (after : Option Held) : Type 0 where
  pub found : OfLogs pair says before
  pub told : PutsOutput pair.output.now (logs_taken pair before) after

-- Both logs are standard input.
pub record AreOneStream (pair : LogPair) : Type 0 where
  pub one : is_dash pair.one.now ≡ true
  pub other : is_dash pair.other.now ≡ true

-- The output is one of the logs.
abbrev pub IsOverLog : LogPair → Held → Type 0
IsOverLog pair held = IsOver pair.output.now pair.one.now held ⊎ IsOver pair.output.now pair.other.now held

-- Two logs can't be compared: they are one stream, or the output is one of them.
abbrev pub AreUnfit : LogPair → Held → Type 0
AreUnfit pair held = AreOneStream pair ⊎ IsOverLog pair held

-- Two logs weren't compared, since they can't be: nothing is another.
pub record RefusesPair (pair : LogPair) (before : Held) (after : Option Held) : Type 0 where
  pub unfit : AreUnfit pair before
  pub same : after ≡ Some before

-- What a status says of what was held before and is now: ScenarioRefused never comes.
abbrev pub IsCompared : LogPair → Status → Held → Option Held → Type 0
IsCompared pair statuses.Done = Compares pair AreSameLogs
IsCompared pair statuses.Unwanted = Compares pair AreOtherLogs
IsCompared pair statuses.FileRefused = Compares pair AreNotLogs
IsCompared pair statuses.WordsRefused = RefusesPair pair
IsCompared pair statuses.ScenarioRefused = λ before after. ⊥
IsCompared pair statuses.ReadFailed = KeepsAllFiles
IsCompared pair statuses.WriteFailed = KeepsAllFiles
IsCompared pair statuses.NoMemory = KeepsAllFiles
