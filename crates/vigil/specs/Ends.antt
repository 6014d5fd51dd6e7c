-- How the program ends.
use Rattle.std.specs.Prelude.{◌≡◌, ℕ, List}
use Rattle.fsw_outside.specs.Told.{WhereTold}
use Rattle.subjects.specs.Own.{own_subjects}
use Rattle.rehearsal.specs.Report.{error_line, Tells}
use Rattle.rehearsal.specs.Promise.{ShelfUse, SinkUse, early_end, Promise}
use Rattle.rehearsal.specs.declared.report.Report.{Report}
use Rattle.rehearsal.specs.declared.report.Status.{Status}
use Rattle.rehearsal.specs.declared.report.Status.TheVariants as statuses

-- the exit status of each end
abbrev pub exit_number : Status → ℕ
exit_number statuses.Done = 0
exit_number statuses.WordsRefused = 1
exit_number statuses.FileRefused = 2
exit_number statuses.ScenarioRefused = 3
exit_number statuses.ReadFailed = 4
exit_number statuses.WriteFailed = 5
exit_number statuses.NoMemory = 6

-- The number is that of a report that keeps the promise of these words, with the program's own simulated applications at hand.
pub record Exits {S O E : Type 0} (number : ℕ) (words : List (List ℕ)) (shelf : ShelfUse S) (out : SinkUse O) (err : SinkUse E) : Type 0 where
  pub report : Report
  pub is : number ≡ exit_number report.status
  pub promise : Promise report words own_subjects shelf out err

-- A rehearsal ended with this status before its words were known: that was told, and nothing was read or written.
pub record EndsEarly {S O E : Type 0} (status : Status) (report : Report) (shelf : ShelfUse S) (out : SinkUse O) (err : SinkUse E) : Type 0 where
  pub is : report ≡ early_end status
  pub unread : shelf.new ≡ shelf.old
  pub unwritten : out.new ≡ out.old
  pub told : WhereTold err.held_before err.held_now (Tells err.faults_before err.faults_now (error_line (early_end status)))

-- The number is that of such an end.
pub record ExitsEarly {S O E : Type 0} (status : Status) (number : ℕ) (shelf : ShelfUse S) (out : SinkUse O) (err : SinkUse E) : Type 0 where
  pub is : number ≡ exit_number status
  pub ends : EndsEarly status (early_end status) shelf out err
