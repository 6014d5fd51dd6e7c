-- What a report says of the scenario's text and of the bytes of the output.
use Rattle.std.specs.Prelude.{◌≡◌, ◌≢◌, ℕ, ◌+◌, ◌==◌, ◌&&◌, ◌<◌, ◌≤◌, List, [], ◌∷◌, ◌++◌, length, slice_index, Bool, true, IsTrue, IsFalse, Option, Some, None, ◌⊎◌}
use Rattle.std.specs.List.{flat_map}
use Rattle.fsw_outside.specs.Told.{WhereTold}
use Rattle.fsw_outside.specs.Causes.{HasRisen}
use Rattle.fsw_outside.specs.Files.{Content, file_named}
use Rattle.fsw_outside.specs.Written.{AppendsPart}
use Rattle.fsw_outside.specs.Tally.{tally_of}
use Rattle.packet_log.specs.Summaries.{summary_text}
use Rattle.scenario.specs.Drill.{drill_text}
use Rattle.scenario.specs.declared.item.Item.TheVariants as answers
use Rattle.scenario.specs.FrameLists.{Frame}
use Rattle.subjects.specs.Plans.{Simulated}
use Rattle.scenario.specs.declared.reason.Reason.{Reason}
use Rattle.scenario.specs.Texts.{Text, Given, Head, Whole, Reading, Bad, Ended, Open, reading}
use Rattle.scenario.specs.Answers.{answer_at_end}
use Rattle.frame_exec.specs.Runs.{Setup, frame_lines, log_of}
use Rattle.frame_exec.specs.Crowds.{frames_run}
use Rattle.frame_exec.specs.Tables.{tables_fault, region_fault}
use Rattle.active_tables.specs.declared.loading.TablesFault.{TablesFault}
use Rattle.active_tables.specs.declared.giving.OpenFault.{OpenFault}
use Rattle.active_tables.specs.declared.giving.OpenFault.TheVariants as faults
use Rattle.rehearsal.specs.declared.report.Status.{Status}
use Rattle.rehearsal.specs.declared.report.Status.TheVariants as statuses
use Rattle.rehearsal.specs.declared.report.Report.{Report}
use Rattle.rehearsal.specs.Words.{Asked, drill_in, words_to_open}
use Rattle.rehearsal.specs.Files.{IsSameOpening, AsksFor, AreTaken, EndsAtFile}

-- the frame that an item of a text is
abbrev pub frame_in_item : Given → List Frame
frame_in_item (Head epoch regions) = []
frame_in_item (Whole frame) = frame ∷ []

-- the frames among the items of a text
unfoldable pub frames_of : List Given → List Frame
frames_of items = flat_map frame_in_item items

-- what a run over these files begins with: the files, and what the header of the text says, which is its first item
unfoldable pub setup_of : List (List ℕ) → List Given → Setup
setup_of files [] = record { epoch = 0; regions = []; files = files }
setup_of files (Head epoch regions ∷ items) = record { epoch = epoch; regions = regions; files = files }
setup_of files (Whole frame ∷ items) = record { epoch = 0; regions = []; files = files }

-- the first entry of the files' tables whose read the map of the text refuses, by the numbers of its file and of itself, where the text has a header
unfoldable pub refused_read : List (List ℕ) → List Given → Option (ℕ × ℕ)
refused_read files [] = None
refused_read files (Head epoch regions ∷ items) = region_fault regions files
refused_read files (Whole frame ∷ items) = None

-- the frames of a text as they are run with the tables of these files, beside these subjects where there is a crowd: it gives their
-- execution counters
unfoldable pub frames_in : List (List ℕ) → Option (List Simulated) → List Given → List Frame
frames_in files crowd items = frames_run (setup_of files items) crowd (frames_of items)

-- the log of those frames
unfoldable pub log_in : List (List ℕ) → Option (List Simulated) → List Given → List ℕ
log_in files crowd items = log_of (setup_of files items) (frames_in files crowd items)

-- The bytes of the scenario's file that were handed out: the file less the rest of the open one, and nothing where none is open.
-- The text is closed where that rest is empty and no fault came.
pub record IsText (is_open : Bool) (faults_before faults_now : ℕ) (file : Option (List ℕ)) (rest : List ℕ) (text : Text) : Type 0 where
  pub front : IsTrue is_open → file ≡ Some (text.bytes ++ rest)
  pub nothing : IsFalse is_open → text.bytes ≡ []
  pub closed : text.closed ≡ ((length rest == 0) && (faults_now == faults_before))

-- The same of the bytes that were read from a start on.
pub record IsTextOf (faults_before faults_now : ℕ) (start after : Content) (text : Text) : Type 0 where
  pub same : IsSameOpening start after
  pub parts : start.rest ≡ text.bytes ++ after.rest
  pub closed : text.closed ≡ ((length after.rest == 0) && (faults_now == faults_before))

-- the whole log was written
pub record IsWhole (frames : ℕ) (files : List (List ℕ)) (crowd : Option (List Simulated)) (read : Reading) (old new : List ℕ) : Type 0 where
  pub number : frames ≡ length (frames_of read.items)
  pub written : new ≡ old ++ log_in files crowd read.items

-- the log of the first frames was written, and a proper first part of the next frame's lines
pub record IsCut (frames : ℕ) (files : List (List ℕ)) (crowd : Option (List Simulated)) (read : Reading) (old new : List ℕ) : Type 0 where
  pub front : List Frame
  pub frame : Frame
  pub more : List Frame
  pub parts : frames_in files crowd read.items ≡ front ++ frame ∷ more
  pub number : frames ≡ length front
  pub written : AppendsPart (frame_lines (setup_of files read.items) front frame) (old ++ log_of (setup_of files read.items) front) new

-- the text is bad or unended, at this line and for this reason
abbrev pub IsRefusedAt : Reading → ℕ → ℕ → Type 0
IsRefusedAt read line reason = answer_at_end read.ending ≡ answers.Bad line reason

-- the fields that a status doesn't name are 0
pub record HasNoPlace (report : Report) : Type 0 where
  pub file : report.file ≡ 0
  pub line : report.line ≡ 0
  pub reason : report.reason ≡ 0

-- an entry of a file's table isn't in order: the first such file, its entry or 0, and 10 more than its loader's reason
pub record RefusesEntry (report : Report) (files : List (List ℕ)) : Type 0 where
  pub status : report.status ≡ statuses.FileRefused
  pub fault : TablesFault
  pub is : tables_fault files ≡ Some fault
  pub file : report.file ≡ fault.file
  pub line : report.line ≡ fault.entry
  pub reason : report.reason ≡ fault.reason + 10
  pub frames : report.frames ≡ 0

-- the map of the text refuses the read of an entry of a file's table: the first such file, its first such entry, and reason 10
pub record RefusesRead (report : Report) (files : List (List ℕ)) (read : Reading) : Type 0 where
  pub is : refused_read files read.items ≡ Some (report.file, report.line)
  pub reason : report.reason ≡ 10
  pub frames : report.frames ≡ 0

-- the report of a bench that isn't opened
abbrev pub fault_report : OpenFault → Report
fault_report (faults.Region file entry) = record { status = statuses.FileRefused; file = file; line = entry; reason = 10; frames = 0 }
fault_report faults.NoMemory = record { status = statuses.NoMemory; file = 0; line = 0; reason = 0; frames = 0 }

-- the map of the text gives the reads of all entries
abbrev pub GivesReads : List (List ℕ) → Reading → Type 0
GivesReads files read = refused_read files read.items ≡ None

-- what each status says of a text that is run beside a crowd, if there is one, and of the bytes of the output, once the words are accepted, the
-- FILEs were taken and their tables loaded
abbrev pub OutcomeOf : Status → Report → List (List ℕ) → Option (List Simulated) → Reading → List ℕ → List ℕ → Type 0
OutcomeOf statuses.Done report files crowd read old new = HasNoPlace report × GivesReads files read × (read.ending ≡ Ended) × IsWhole report.frames files crowd read old new
OutcomeOf statuses.WordsRefused report files crowd read old new = ⊥
OutcomeOf statuses.FileRefused report files crowd read old new = RefusesRead report files read × (new ≡ old)
OutcomeOf statuses.ScenarioRefused report files crowd read old new = (report.file ≡ 0) × GivesReads files read × IsRefusedAt read report.line report.reason × IsWhole report.frames files crowd read old new
OutcomeOf statuses.ReadFailed report files crowd read old new = HasNoPlace report × GivesReads files read × (read.ending ≡ Open) × IsWhole report.frames files crowd read old new
OutcomeOf statuses.WriteFailed report files crowd read old new = HasNoPlace report × GivesReads files read × IsCut report.frames files crowd read old new
OutcomeOf statuses.NoMemory report files crowd read old new = HasNoPlace report × (report.frames ≡ 0) × (new ≡ old)

-- what a report says of the files that were taken, of a text that is run beside a crowd, if there is one, and of the bytes of the output
abbrev pub Outcome : Report → List (List ℕ) → Option (List Simulated) → Text → List ℕ → List ℕ → Type 0
Outcome report files crowd text old new = OutcomeOf report.status report files crowd (reading text) old new

-- the whole text of the generated scenario that is drawn from k
abbrev pub drill_of : ℕ → Text
drill_of k = record { bytes = drill_text k; closed = true }

-- the summary of the log of 2,000 frames, which a generated scenario has
unfoldable pub summary_in : List (List ℕ) → Option (List Simulated) → List Given → List ℕ
summary_in files crowd items = summary_text 2000 (tally_of (log_in files crowd items))

-- all frames were run, and the summary was written in place of their log
pub record IsSummed (frames : ℕ) (files : List (List ℕ)) (crowd : Option (List Simulated)) (read : Reading) (old new : List ℕ) : Type 0 where
  pub number : frames ≡ 2000
  pub written : new ≡ old ++ summary_in files crowd read.items

-- all frames were run, and a proper first part of the summary was written
pub record IsCutSummary (frames : ℕ) (files : List (List ℕ)) (crowd : Option (List Simulated)) (read : Reading) (old new : List ℕ) : Type 0 where
  pub number : frames ≡ 2000
  pub written : AppendsPart (summary_in files crowd read.items) old new

-- what each status says of the text of a generated scenario, which always ends well, and of the bytes of the output; no read of that text fails
abbrev pub DrillOutcomeOf : Status → Report → List (List ℕ) → Option (List Simulated) → Reading → List ℕ → List ℕ → Type 0
DrillOutcomeOf statuses.Done report files crowd read old new = HasNoPlace report × GivesReads files read × IsSummed report.frames files crowd read old new
DrillOutcomeOf statuses.WordsRefused report files crowd read old new = ⊥
DrillOutcomeOf statuses.FileRefused report files crowd read old new = RefusesRead report files read × (new ≡ old)
DrillOutcomeOf statuses.ScenarioRefused report files crowd read old new = ⊥
DrillOutcomeOf statuses.ReadFailed report files crowd read old new = ⊥
DrillOutcomeOf statuses.WriteFailed report files crowd read old new = HasNoPlace report × GivesReads files read × IsCutSummary report.frames files crowd read old new
DrillOutcomeOf statuses.NoMemory report files crowd read old new = HasNoPlace report × (report.frames ≡ 0) × (new ≡ old)

-- what a report says of the files that were taken, of the generated scenario that is drawn from k, and of the bytes of the output
abbrev pub DrillOutcome : Report → List (List ℕ) → Option (List Simulated) → ℕ → List ℕ → List ℕ → Type 0
DrillOutcome report files crowd k old new = DrillOutcomeOf report.status report files crowd (reading (drill_of k)) old new

-- at most 4,096 bytes were read past the end of the text's header
abbrev pub IsReadToHeader : Text → Type 0
IsReadToHeader text = length text.bytes ≤ slice_index (reading text).stops 0 + 4096

-- How far reading went ahead: where the output failed, at most 4,096 bytes past the end of the `tick` line of the frame whose lines were cut,
-- where a line is bad, at most 4,096 bytes past the end of that line, and where a read is refused or memory ran out, at most as many past the header's end.
abbrev pub ReadsAheadBy : Status → Report → Text → Type 0
ReadsAheadBy statuses.WriteFailed report text = length text.bytes ≤ slice_index (reading text).stops (report.frames + 1) + 4096
ReadsAheadBy statuses.ScenarioRefused report text =
    (line : ℕ) (reason : Reason) → (reading text).ending ≡ Bad line reason → length text.bytes ≤ slice_index (reading text).stops (length (reading text).items) + 4096
ReadsAheadBy statuses.Done report text = Unit {0}
ReadsAheadBy statuses.WordsRefused report text = Unit {0}
ReadsAheadBy statuses.FileRefused report text = IsReadToHeader text
ReadsAheadBy statuses.ReadFailed report text = Unit {0}
ReadsAheadBy statuses.NoMemory report text = IsReadToHeader text

-- how far reading went ahead, by a report
abbrev pub ReadsAhead : Report → Text → Type 0
ReadsAhead report text = ReadsAheadBy report.status report text

-- Of a text that had these bytes to come, at most 4,096 were read past the end of its header, so that these are still to come.
pub record LeavesFrames (before after : List ℕ) : Type 0 where
  pub text : Text
  pub parts : before ≡ text.bytes ++ after
  pub closed : text.closed ≡ (length after == 0)
  pub read : IsReadToHeader text

-- The causes of a report: the shelf's count of faults rose exactly where a read failed, and the output's where a write did; else each stays.
pub record HasCauses {A B : Type 0} (status : Status) (told : Option A) (faults_before faults_now : ℕ) (held : Option B) (wrote_before wrote_now : ℕ) : Type 0 where
  pub read_failed : status ≡ statuses.ReadFailed → HasRisen told faults_before faults_now
  pub read_well : status ≢ statuses.ReadFailed → faults_now ≡ faults_before
  pub write_failed : status ≡ statuses.WriteFailed → HasRisen held wrote_before wrote_now
  pub wrote_well : status ≢ statuses.WriteFailed → wrote_now ≡ wrote_before

-- What was seen of the outside: whether a file is open, the shelf's count of faults before and now, and the bytes of the output before and now,
-- where they are told.
pub record Seen : Type 0 where
  pub is_open : Bool
  pub faults_before : ℕ
  pub faults_now : ℕ
  pub held_before : Option (List ℕ)
  pub held_now : Option (List ℕ)

-- nothing was written
abbrev pub WritesNothing : Seen → Type 0
WritesNothing seen = WhereTold seen.held_before seen.held_now (λ old new. new ≡ old)

-- A rehearsal ended before the scenario was asked for, at the last FILE that was, or without memory before the first; nothing was written.
pub record EndsBefore (report : Report) (asked_for : Asked) (seen : Seen) (before after : Content) : Type 0 where
  pub count : ℕ
  pub asked : AsksFor (words_to_open asked_for) count before after
  pub ends : EndsAtFile report before.files asked_for.files count seen.is_open after.rest
  pub unwritten : WritesNothing seen

-- All FILEs were taken, and an entry of one's table isn't in order; the scenario wasn't asked for, and nothing was written.
pub record EndsAtTables (report : Report) (asked_for : Asked) (seen : Seen) (before after : Content) : Type 0 where
  pub some : 0 < length asked_for.files
  pub asked : AsksFor (words_to_open asked_for) (length asked_for.files) before after
  pub read : after.rest ≡ []
  pub files : List (List ℕ)
  pub taken : AreTaken before.files asked_for.files files
  pub refuses : RefusesEntry report files
  pub unwritten : WritesNothing seen

-- All FILEs were taken, their tables loaded, and the scenario was asked for, of whose file this text was handed out and run beside a crowd, if
-- there is one.
pub record ReadsScenario (report : Report) (asked_for : Asked) (crowd : Option (List Simulated)) (seen : Seen) (before after : Content) : Type 0 where
  pub asked : AsksFor (words_to_open asked_for) (length asked_for.files + 1) before after
  pub files : List (List ℕ)
  pub taken : AreTaken before.files asked_for.files files
  pub loaded : tables_fault files ≡ None
  pub text : Text
  pub is_text : IsText seen.is_open seen.faults_before seen.faults_now (file_named before.files asked_for.scenario) after.rest text
  pub ahead : ReadsAhead report text
  pub outcome : WhereTold seen.held_before seen.held_now (Outcome report files crowd text)

-- All FILEs were taken and their tables loaded, the scenario is generated, and the shelf was asked for nothing else.
pub record RunsDrill (k : ℕ) (report : Report) (asked_for : Asked) (crowd : Option (List Simulated)) (seen : Seen) (before after : Content) : Type 0 where
  pub asked : AsksFor (words_to_open asked_for) (length asked_for.files) before after
  pub read : 0 < length asked_for.files → after.rest ≡ []
  pub files : List (List ℕ)
  pub taken : AreTaken before.files asked_for.files files
  pub loaded : tables_fault files ≡ None
  pub well : (report.status ≢ statuses.ReadFailed) × (report.status ≢ statuses.ScenarioRefused)
  pub outcome : WhereTold seen.held_before seen.held_now (DrillOutcome report files crowd k)

-- the scenario is read from its file, or it is generated
abbrev pub RunsBy : Option ℕ → Report → Asked → Option (List Simulated) → Seen → Content → Content → Type 0
RunsBy None report asked crowd seen before after = ReadsScenario report asked crowd seen before after
RunsBy (Some k) report asked crowd seen before after = RunsDrill k report asked crowd seen before after

-- what a rehearsal comes to, by what its words ask for, the crowd beside which it runs, if there is one, what was seen of the outside, and what the shelf told before and after
abbrev pub Rehearses : Report → Asked → Option (List Simulated) → Seen → Content → Content → Type 0
Rehearses report asked crowd seen before after =
    EndsBefore report asked seen before after ⊎ EndsAtTables report asked seen before after ⊎ RunsBy (drill_in asked.scenario) report asked crowd seen before after

-- the whole log of a text was written, or memory ran out before the first frame
abbrev pub Completes : Report → List (List ℕ) → Option (List Simulated) → Text → List ℕ → List ℕ → Type 0
Completes report files crowd text old new =
    ((report.status ≡ statuses.Done) × IsWhole report.frames files crowd (reading text) old new) ⊎ ((report.status ≡ statuses.NoMemory) × (report.frames ≡ 0) × (new ≡ old))

-- the summary of the whole log of a generated scenario was written, or memory ran out before the first frame
abbrev pub SumsUp : Report → List (List ℕ) → Option (List Simulated) → ℕ → List ℕ → List ℕ → Type 0
SumsUp report files crowd k old new =
    ((report.status ≡ statuses.Done) × IsSummed report.frames files crowd (reading (drill_of k)) old new) ⊎ ((report.status ≡ statuses.NoMemory) × (report.frames ≡ 0) × (new ≡ old))

-- there was no word to open, or memory ran out before the first
abbrev pub MayAskNothing : Status → Asked → Type 0
MayAskNothing status asked = (status ≡ statuses.NoMemory) ⊎ (words_to_open asked ≡ [])
