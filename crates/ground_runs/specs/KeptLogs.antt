-- What a rehearsal leaves, by how it ended.
use Rattle.std.proofs.Common.{Bor}
use Rattle.std.specs.Prelude.{◌≡◌, ℕ, Bool, true, List, [], Option, Some, None, option_map, ◌⊎◌}
use Rattle.ground_files.specs.Workspaces.{Held, file_put, settled_at, files_of}
use Rattle.ground_files.specs.Verbs.{KeepsAllFiles}
use Rattle.ground_files.specs.declared.verb_status.Status.{Status}
use Rattle.ground_files.specs.declared.verb_status.Status.TheVariants as statuses
use Rattle.subjects.specs.Own.{own_subjects}
use Rattle.rehearsal.specs.Promise.{ShelfUse, SinkUse, Promise}
use Rattle.rehearsal.specs.declared.report.Report.{Report}
use Rattle.ground_runs.specs.declared.asked_run.Run.{Run}
use Rattle.ground_runs.specs.Endings.{status_at, unjudged, is_kept}
use Rattle.ground_runs.specs.Refusals.{is_drill, AreWordsRefused}
use Rattle.ground_runs.specs.Rehearsing.{silent}

-- ---- how a rehearsal ended

-- An output of a rehearsal that it may be read from: it began without a byte, no write of it failed, and these bytes are in it.
abbrev pub file_use : List ℕ → SinkUse (List ℕ)
file_use bytes = record { old = []; new = bytes; held_before = Some []; held_now = Some bytes; faults_before = 0; faults_now = 0 }

-- These bytes are the log of a rehearsal that ended with this report, or the summary of a generated scenario: what is promised of the words for
-- it, the program's own subjects, its shelf and its output holds of a file with these bytes.
pub record IsLog {S : Type 0} (words : List (List ℕ)) (seen : S → ShelfUse S) (report : Report) (bytes : List ℕ) : Type 0 where
  pub behind : S
  pub promise : Promise report words own_subjects (seen behind) (file_use bytes) silent

-- What is staged for a rehearsal: the words for it, and what is seen of its shelf by how that stands behind it.
pub record Staged (S : Type 0) : Type 0 where
  pub words : List (List ℕ)
  pub seen : S → ShelfUse S

abbrev pub staged : {S : Type 0} → List (List ℕ) → (S → ShelfUse S) → Staged S
staged words seen = record { words = words; seen = seen }

-- What is staged was rehearsed, which came to a report with this status, and to these bytes.
pub record ComesTo {S : Type 0} (what : Staged S) (status : Status) (bytes : List ℕ) : Type 0 where
  pub report : Report
  pub ends : status_at report.status ≡ unjudged status
  pub is_log : IsLog what.words what.seen report bytes

-- ---- what it leaves

-- the file of the log was settled, where one is named
abbrev pub log_settled : Option (Bor (List ℕ)) → List ℕ → Bool → Held → Held
log_settled None bytes kept held = held
log_settled (Some log) bytes kept held = settled_at log.now bytes kept held

-- The outputs of a rehearsal were settled, first the log and then its words: they are in their places where it came to its end, or past a frame.
-- Of a generated scenario the words are its summary.
pub record Settles {S : Type 0} (what : Staged S) (run : Run) (status : Status) (before : Held) (after : Option Held) : Type 0 where
  pub bytes : List ℕ
  pub comes : ComesTo what status bytes
  pub text : List ℕ
  pub summed : is_drill run.scenario.now ≡ true → text ≡ bytes
  pub settled : after ≡ Some (settled_at run.output.now text (is_kept status comes.report.frames) (log_settled run.log bytes (is_kept status comes.report.frames) before))

-- The log is in its place, and its words couldn't be moved to theirs.
pub record KeepsLogAlone {S : Type 0} (what : Staged S) (run : Run) (before : Held) (after : Option Held) : Type 0 where
  pub log : Bor (List ℕ)
  pub is_named : run.log ≡ Some log
  pub status : Status
  pub bytes : List ℕ
  pub comes : ComesTo what status bytes
  pub kept : is_kept status comes.report.frames ≡ true
  pub files : option_map files_of after ≡ Some (file_put log.now bytes before.files)

-- What is staged was rehearsed to this status, and no file is another.
pub record KeepsNone {S : Type 0} (what : Staged S) (status : Status) (before : Held) (after : Option Held) : Type 0 where
  pub bytes : List ℕ
  pub comes : ComesTo what status bytes
  pub kept : KeepsAllFiles before after

-- How a rehearsal of what is staged ends that is asked for so, and what it leaves.
abbrev pub EndsRun : {S : Type 0} → Staged S → Run → Status → Held → Option Held → Type 0
EndsRun what run statuses.Done before after = Settles what run statuses.Done before after
EndsRun what run statuses.WordsRefused before after = (AreWordsRefused run before × KeepsAllFiles before after) ⊎ KeepsNone what statuses.WordsRefused before after
EndsRun what run statuses.FileRefused before after = KeepsNone what statuses.FileRefused before after
EndsRun what run statuses.ScenarioRefused before after = Settles what run statuses.ScenarioRefused before after
EndsRun what run statuses.ReadFailed before after = Settles what run statuses.ReadFailed before after
EndsRun what run statuses.WriteFailed before after = KeepsAllFiles before after ⊎ KeepsLogAlone what run before after
EndsRun what run statuses.NoMemory before after = KeepsAllFiles before after
EndsRun what run statuses.Unwanted before after = (run.is_strict ≡ true) × Settles what run statuses.Unwanted before after

-- ---- what the code gives

-- What is staged was rehearsed into an output: where that tells its bytes, the rehearsal came to them.
pub record WritesLog {S L : Type 0} (what : Staged S) (held : L → Option (List ℕ)) (faults : L → ℕ) (old new : L) (status : Status) (frames : ℕ) : Type 0 where
  pub report : Report
  pub ends : status_at report.status ≡ unjudged status
  pub number : report.frames ≡ frames
  pub well : faults old ≡ 0 → faults new ≡ 0
  pub is_log : (bytes : List ℕ) → faults old ≡ 0 → held old ≡ Some [] → held new ≡ Some bytes → IsLog what.words what.seen report bytes

-- Outputs were settled: all, or the log's alone, or none.
abbrev pub SettledAs : Option (Bor (List ℕ)) → List ℕ → List ℕ → List ℕ → Bool → Status → Status → Held → Option Held → Type 0
SettledAs log bytes output text kept ended status before after =
    ((status ≡ ended) × (after ≡ Some (settled_at output text kept (log_settled log bytes kept before))))
    ⊎ ((status ≡ statuses.WriteFailed) × (KeepsAllFiles before after ⊎ (option_map files_of after ≡ Some (files_of (log_settled log bytes kept before)))))
