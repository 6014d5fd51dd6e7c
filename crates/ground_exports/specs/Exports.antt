-- What a log is made into, and what the verbs that do so leave.
use Rattle.std.specs.Prelude.{◌≡◌, ℕ, Bool, true, false, List, [], Option, Some, None}
use Rattle.ground_files.specs.Workspaces.{Held, input_bytes}
use Rattle.ground_files.specs.Verbs.{MakesOutput, KeepsAllFiles, IsOver}
use Rattle.ground_files.specs.declared.verb_status.Status.{Status}
use Rattle.ground_files.specs.declared.verb_status.Status.TheVariants as statuses
use Rattle.ground_logs.specs.Making.{IsMadeOf}
use Rattle.ground_logs.specs.Told.{IsSentence}
use Rattle.ground_exports.specs.Records.{IsCaptureOf}
use Rattle.ground_exports.specs.Rows.{AreRowsOf}
use Rattle.ground_exports.specs.declared.exporting.Export.{Export}
use Rattle.ground_exports.specs.declared.exporting.Export.TheVariants as exports
use Rattle.ground_exports.specs.declared.exporting.Exported.{Exported}

-- the time of frame 0, where it is known
abbrev pub known_epoch : Option ℕ → ℕ
known_epoch (Some epoch) = epoch
known_epoch None = 0

-- What was written of a log's whole text, and whether it was said that all of its lines are a log's.
abbrev pub IsExportOf : Export → Option ℕ → List ℕ → Bool → Option (List ℕ) → Option (List ℕ) → Type 0
IsExportOf exports.Words epoch = IsMadeOf (IsSentence epoch)
IsExportOf exports.Rows epoch = AreRowsOf
IsExportOf exports.Capture epoch = IsCaptureOf (known_epoch epoch)

-- What was written of the log that is asked for, by what was held.
pub record IsExportOfInput (asked : Exported) (held : Held) (said : Bool) (before after : Option (List ℕ)) : Type 0 where
  pub read : List ℕ
  pub is_input : input_bytes asked.file.now held ≡ Some read
  pub is_export : IsExportOf asked.export asked.epoch read said before after

-- The log that is asked for was read, and what is made of it stands in its output, all of it and nothing else.
abbrev pub MakesExport : Exported → Bool → Held → Option Held → Type 0
MakesExport asked whole = MakesOutput asked.file.now asked.output.now
    (λ held read made. IsExportOf asked.export asked.epoch read whole (Some []) (Some made))

-- The output that is asked for is the log itself: nothing is made, and nothing is another.
pub record RefusesExport (asked : Exported) (before : Held) (after : Option Held) : Type 0 where
  pub over : IsOver asked.output.now asked.file.now before
  pub same : after ≡ Some before

-- What a status says of what was held before and is now: ScenarioRefused and Unwanted never come.
abbrev pub IsExported : Exported → Status → Held → Option Held → Type 0
IsExported asked statuses.Done = MakesExport asked true
IsExported asked statuses.FileRefused = MakesExport asked false
IsExported asked statuses.WordsRefused = RefusesExport asked
IsExported asked statuses.ScenarioRefused = λ before after. ⊥
IsExported asked statuses.ReadFailed = KeepsAllFiles
IsExported asked statuses.WriteFailed = KeepsAllFiles
IsExported asked statuses.NoMemory = KeepsAllFiles
IsExported asked statuses.Unwanted = λ before after. ⊥
