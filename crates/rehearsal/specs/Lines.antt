-- The lines of the headline's list, as conditions on the words, the files, the text and the counts of faults.
use Rattle.std.specs.Prelude.{◌≡◌, ◌≢◌, ℕ, ◌+◌, ◌<◌, ◌≤◌, List, length, map, take, Option, Some, None, IsSome}
use Rattle.fsw_outside.specs.Files.{Content, file_named}
use Rattle.scenario.specs.Texts.{Text, reading}
use Rattle.subjects.specs.Plans.{Simulated}
use Rattle.frame_exec.specs.Tables.{tables_fault}
use Rattle.active_tables.specs.declared.loading.TablesFault.{TablesFault}
use Rattle.rehearsal.specs.Words.{Asked, drill_in}
use Rattle.rehearsal.specs.Files.{Refusal, first_refusal, AreTaken}
use Rattle.rehearsal.specs.Outcome.{IsText, GivesReads, Seen, Rehearses}
use Rattle.rehearsal.specs.declared.report.Report.{Report}
use Rattle.rehearsal.specs.declared.report.Status.TheVariants as statuses

-- A rehearsal of accepted words: its report, what the words ask for, the crowd beside which it ran, if there is one, what was seen of the
-- outside, the output's counts of faults, and what the shelf told before and after.
pub record Rehearsal : Type 0 where
  pub report : Report
  pub asked : Asked
  pub crowd : Option (List Simulated)
  pub seen : Seen
  pub wrote_before : ℕ
  pub wrote_now : ℕ
  pub before : Content
  pub after : Content

-- It was carried out as promised over a shelf and an output that tell: what it comes to, and which of the two failed.
pub record Rehearsed (r : Rehearsal) : Type 0 where
  pub rehearses : Rehearses r.report r.asked r.crowd r.seen r.before r.after
  pub read_failed : r.report.status ≡ statuses.ReadFailed → r.seen.faults_before < r.seen.faults_now
  pub read_well : r.report.status ≢ statuses.ReadFailed → r.seen.faults_now ≡ r.seen.faults_before
  pub write_failed : r.report.status ≡ statuses.WriteFailed → r.wrote_before < r.wrote_now
  pub wrote_well : r.report.status ≢ statuses.WriteFailed → r.wrote_now ≡ r.wrote_before

-- memory sufficed
abbrev pub HasMemory : Rehearsal → Type 0
HasMemory r = r.report.status ≢ statuses.NoMemory

-- ---- what may be seen of it

-- The shelf failed, and the last file that was asked for is the FILE of this number.
pub record FailsOn (file : ℕ) (r : Rehearsal) : Type 0 where
  pub rose : r.seen.faults_before < r.seen.faults_now
  pub last : r.after.openings ≡ r.before.openings + file
  pub some : 1 ≤ file
  pub within : file ≤ length r.asked.files

-- The shelf didn't fail, and the first FILE that is refused, among those that the first so many names name, is this one.
pub record Refuses (refusal : Refusal) (r : Rehearsal) : Type 0 where
  pub well : r.seen.faults_now ≡ r.seen.faults_before
  pub count : ℕ
  pub files : List (List ℕ)
  pub named : map (file_named r.before.files) (take count r.asked.files) ≡ map Some files
  pub refused : first_refusal files ≡ Some refusal

-- The shelf didn't fail, all FILEs can be taken, and a table of theirs has this fault.
pub record IsFaulty (fault : TablesFault) (r : Rehearsal) : Type 0 where
  pub well : r.seen.faults_now ≡ r.seen.faults_before
  pub files : List (List ℕ)
  pub taken : AreTaken r.before.files r.asked.files files
  pub fails : tables_fault files ≡ Some fault

-- All FILEs can be taken, their tables load, the scenario was the last that was asked for, and this text of it was handed out.
pub record ReadsText (files : List (List ℕ)) (text : Text) (r : Rehearsal) : Type 0 where
  pub taken : AreTaken r.before.files r.asked.files files
  pub loaded : tables_fault files ≡ None
  pub last : r.after.openings ≡ r.before.openings + (length r.asked.files + 1)
  pub is_text : IsText r.seen.is_open r.seen.faults_before r.seen.faults_now (file_named r.before.files r.asked.scenario) r.after.rest text
  pub told : IsSome r.seen.held_now

-- Its map gives the reads of all entries, and the output didn't fail.
pub record RunsText (files : List (List ℕ)) (text : Text) (r : Rehearsal) : Type 0 where
  pub reads : ReadsText files text r
  pub given : GivesReads files (reading text)
  pub written : r.wrote_now ≡ r.wrote_before

-- All FILEs can be taken and their tables load, the scenario is generated and drawn from k, and the shelf didn't fail.
pub record IsDrill (k : ℕ) (files : List (List ℕ)) (r : Rehearsal) : Type 0 where
  pub drill : drill_in r.asked.scenario ≡ Some k
  pub well : r.seen.faults_now ≡ r.seen.faults_before
  pub taken : AreTaken r.before.files r.asked.files files
  pub loaded : tables_fault files ≡ None
  pub told : IsSome r.seen.held_now

-- ---- what a report says

-- a FILE can't be read; 0 is the scenario
abbrev pub SaysUnread : Report → ℕ → Type 0
SaysUnread report file = (report.status ≡ statuses.ReadFailed) × (report.file ≡ file)

-- a FILE is refused at an entry, or at 0 where it isn't one, for a reason
abbrev pub SaysFile : Report → ℕ → ℕ → ℕ → Type 0
SaysFile report file entry reason = (report.status ≡ statuses.FileRefused) × (report.file ≡ file) × (report.line ≡ entry) × (report.reason ≡ reason)

-- the scenario is refused at a line, for a reason
abbrev pub SaysLine : Report → ℕ → ℕ → Type 0
SaysLine report line reason = (report.status ≡ statuses.ScenarioRefused) × (report.line ≡ line) × (report.reason ≡ reason)
