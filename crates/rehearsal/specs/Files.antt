-- Which files are asked for and taken, the first that is refused, how much of them is read, and what a rehearsal that ends at one says.
use Rattle.std.specs.Prelude.{◌≡◌, ℕ, ◌+◌, ◌-◌, ◌<◌, ◌≤◌, List, [], Option, Some, None, is_some, option_map, length, slice_index_or, if◌then◌else◌, nat_lt, ◌∷◌, ◌++◌, map, ◌≢◌, Bool, IsTrue, Result, Ok, Err, take}
use Rattle.fsw_outside.specs.Files.{Stored, Content, file_named}
use Rattle.table_files.specs.Faults.{file_fault_number}
use Rattle.table_files.specs.Headers.{file_fault_of}
use Rattle.fsw_outside.specs.Causes.{HasRisen}
use Rattle.rehearsal.specs.declared.files.Unread.{Unread}
use Rattle.rehearsal.specs.declared.files.Stop.{Stop}
use Rattle.rehearsal.specs.declared.report.Status.{Status}
use Rattle.rehearsal.specs.declared.report.Report.{Report}
use Rattle.rehearsal.specs.declared.files.Unread.TheVariants as unread
use Rattle.rehearsal.specs.declared.files.Stop.TheVariants as stops
use Rattle.rehearsal.specs.declared.report.Status.TheVariants as statuses

-- nothing was asked for
pub record IsSameOpening (old new : Content) : Type 0 where
  pub files : new.files ≡ old.files
  pub openings : new.openings ≡ old.openings
  pub name : new.name ≡ old.name

-- the name that a shelf with these files notes for a word
abbrev pub noted_name : List Stored → List ℕ → Option (List ℕ)
noted_name files word = if is_some (file_named files word) then Some word else None

-- one file was asked for, by this name
pub record OpensOnce (asked : List ℕ) (old new : Content) : Type 0 where
  pub files : new.files ≡ old.files
  pub openings : new.openings ≡ old.openings + 1
  pub name : new.name ≡ noted_name old.files asked

-- so many of the words were asked for, in their order from the first, and nothing else
pub record AsksFor (words : List (List ℕ)) (count : ℕ) (old new : Content) : Type 0 where
  pub files : new.files ≡ old.files
  pub within : count ≤ length words
  pub openings : new.openings ≡ old.openings + count
  pub name : 0 < count → new.name ≡ noted_name old.files (slice_index_or words (count - 1) [])
  pub nothing : count ≡ 0 → new ≡ old

-- the reason for which a file is refused: 9 where it has over 65,700 bytes, else 1 to 7 for its headers
unfoldable pub refusal_of : List ℕ → Option ℕ
refusal_of file = if nat_lt 65700 (length file) then Some 9 else option_map file_fault_number (file_fault_of file)

-- a file that is refused: its number, counted from 1, and the reason
pub record Refusal : Type 0 where
  pub file : ℕ
  pub reason : ℕ

-- the refusal of the file with this number, or else the first behind it
abbrev pub refused_or : ℕ → Option ℕ → Option Refusal → Option Refusal
refused_or n None behind = behind
refused_or n (Some reason) behind = Some (record { file = n; reason = reason })

-- the first of the files that is refused, the first of which has number n
unfoldable pub refused_from : ℕ → List (List ℕ) → Option Refusal
refused_from n [] = None
refused_from n (file ∷ files) = refused_or n (refusal_of file) (refused_from (n + 1) files)

-- the first of the files that is refused
unfoldable pub first_refusal : List (List ℕ) → Option Refusal
first_refusal files = refused_from 1 files

-- these are the files that the names name, in order, and none of them is refused
pub record AreTaken (stored : List Stored) (names files : List (List ℕ)) : Type 0 where
  pub named : map (file_named stored) names ≡ map Some files
  pub taken : first_refusal files ≡ None

-- bytes of the rest of a file were read and appended to others; none only at the file's end
pub record Appends (count : ℕ) (old new : List ℕ) (before after : Content) : Type 0 where
  pub bytes : List ℕ
  pub read : before.rest ≡ bytes ++ after.rest
  pub appended : new ≡ old ++ bytes
  pub end : count ≡ 0 → before.rest ≡ []

-- a file is so many bytes that were read, and then what is left of it
pub record IsPart (count : ℕ) (file rest : List ℕ) : Type 0 where
  pub front : List ℕ
  pub parts : file ≡ front ++ rest
  pub size : length front ≡ count

-- at most 65,700 bytes of a file were read
abbrev pub IsShortPart : List ℕ → List ℕ → Type 0
IsShortPart file rest = (count : ℕ) × (count ≤ 65700) × IsPart count file rest

-- what is left of a file that is refused: what stands behind its 65,701st byte where it is too long, and else nothing
pub record IsLeft (reason : ℕ) (file rest : List ℕ) : Type 0 where
  pub long : reason ≡ 9 → IsPart 65701 file rest
  pub whole : reason ≢ 9 → rest ≡ []

-- how much was read of the rest of a file that wasn't read to its end
abbrev pub IsUnread : Unread → List ℕ → List ℕ → Type 0
IsUnread unread.Failed file rest = IsShortPart file rest
IsUnread unread.TooLong file rest = IsPart 65701 file rest
IsUnread unread.NoMemory file rest = Unit {0}

-- how much was read of the file of a name that wasn't read whole, where one is open
abbrev pub IsUnreadFile : Unread → Bool → Option (List ℕ) → List ℕ → Type 0
IsUnreadFile unread.Failed is_open file rest = IsTrue is_open → (bytes : List ℕ) × (file ≡ Some bytes) × IsShortPart bytes rest
IsUnreadFile unread.TooLong is_open file rest = (bytes : List ℕ) × (file ≡ Some bytes) × IsPart 65701 bytes rest
IsUnreadFile unread.NoMemory is_open file rest = Unit {0}

-- what a file that wasn't read says of the count of faults: it rose where the shelf failed, and else it stayed
abbrev pub UnreadCause : {A : Type 0} → Option A → ℕ → ℕ → Unread → Type 0
UnreadCause told before now unread.Failed = HasRisen told before now
UnreadCause told before now unread.TooLong = now ≡ before
UnreadCause told before now unread.NoMemory = now ≡ before

-- what taking the file of a name behind others comes to, and what is left of it
abbrev pub Takes : Result (Unit {0}) Stop → Bool → Option (List ℕ) → List ℕ → List (List ℕ) → List (List ℕ) → Type 0
Takes (Ok done) is_open file rest old new = (bytes : List ℕ) × (file ≡ Some bytes) × (refusal_of bytes ≡ None) × (new ≡ old ++ bytes ∷ []) × (rest ≡ [])
Takes (Err stops.Failed) is_open file rest old new = IsTrue is_open → (bytes : List ℕ) × (file ≡ Some bytes) × IsShortPart bytes rest
Takes (Err (stops.Refused reason)) is_open file rest old new = (bytes : List ℕ) × (file ≡ Some bytes) × (refusal_of bytes ≡ Some reason) × IsLeft reason bytes rest
Takes (Err stops.NoMemory) is_open file rest old new = Unit {0}

-- what a file that isn't taken says of the count of faults
abbrev pub StopCause : {A : Type 0} → Option A → ℕ → ℕ → Stop → Type 0
StopCause told before now stops.Failed = HasRisen told before now
StopCause told before now (stops.Refused reason) = now ≡ before
StopCause told before now stops.NoMemory = now ≡ before

-- the report of a FILE that isn't taken
abbrev pub stop_report : Stop → ℕ → Report
stop_report stops.Failed file = record { status = statuses.ReadFailed; file = file; line = 0; reason = 0; frames = 0 }
stop_report (stops.Refused reason) file = record { status = statuses.FileRefused; file = file; line = 0; reason = reason; frames = 0 }
stop_report stops.NoMemory file = record { status = statuses.NoMemory; file = 0; line = 0; reason = 0; frames = 0 }

-- The shelf failed on a FILE, and those before it were taken. Where it was opened, at most 65,700 bytes of it were read.
pub record FailsAtFile (report : Report) (stored : List Stored) (names : List (List ℕ)) (is_open : Bool) (rest : List ℕ) : Type 0 where
  pub before : List (List ℕ)
  pub taken : AreTaken stored (take (length before) names) before
  pub part : IsTrue is_open → (bytes : List ℕ) × (file_named stored (slice_index_or names (length before) []) ≡ Some bytes) × IsShortPart bytes rest
  pub file : report.file ≡ length before + 1
  pub within : report.file ≤ length names
  pub line : report.line ≡ 0
  pub reason : report.reason ≡ 0
  pub frames : report.frames ≡ 0

-- A FILE is the first that is refused, for the report's reason. It was read to its end, or to its 65,701st byte where it is too long.
pub record RefusesFile (report : Report) (stored : List Stored) (names : List (List ℕ)) (rest : List ℕ) : Type 0 where
  pub before : List (List ℕ)
  pub bytes : List ℕ
  pub named : map (file_named stored) (take report.file names) ≡ map Some (before ++ bytes ∷ [])
  pub refused : first_refusal (before ++ bytes ∷ []) ≡ Some (record { file = report.file; reason = report.reason })
  pub left : IsLeft report.reason bytes rest
  pub line : report.line ≡ 0
  pub frames : report.frames ≡ 0

-- Memory ran out before the scenario was asked for.
pub record RunsOut (report : Report) (names : List (List ℕ)) (count : ℕ) : Type 0 where
  pub within : count ≤ length names
  pub file : report.file ≡ 0
  pub line : report.line ≡ 0
  pub reason : report.reason ≡ 0
  pub frames : report.frames ≡ 0

-- what each status says of the FILE at which a rehearsal ended, which is the last that was asked for
abbrev pub EndsAtFileBy : Status → Report → List Stored → List (List ℕ) → ℕ → Bool → List ℕ → Type 0
EndsAtFileBy statuses.Done report stored names count is_open rest = ⊥
EndsAtFileBy statuses.WordsRefused report stored names count is_open rest = ⊥
EndsAtFileBy statuses.FileRefused report stored names count is_open rest = RefusesFile report stored names rest × (report.file ≡ count)
EndsAtFileBy statuses.ScenarioRefused report stored names count is_open rest = ⊥
EndsAtFileBy statuses.ReadFailed report stored names count is_open rest = FailsAtFile report stored names is_open rest × (report.file ≡ count)
EndsAtFileBy statuses.WriteFailed report stored names count is_open rest = ⊥
EndsAtFileBy statuses.NoMemory report stored names count is_open rest = RunsOut report names count

-- A rehearsal ended at a FILE, the last of so many that were asked for: the shelf failed on it, it is refused, or memory ran out.
abbrev pub EndsAtFile : Report → List Stored → List (List ℕ) → ℕ → Bool → List ℕ → Type 0
EndsAtFile report stored names count is_open rest = EndsAtFileBy report.status report stored names count is_open rest

-- what a rehearsal that ended at a FILE says of the count of faults: it rose where the shelf failed, and else it stayed
abbrev pub EndCauseBy : {A : Type 0} → Status → Option A → ℕ → ℕ → Type 0
EndCauseBy statuses.Done told before now = now ≡ before
EndCauseBy statuses.WordsRefused told before now = now ≡ before
EndCauseBy statuses.FileRefused told before now = now ≡ before
EndCauseBy statuses.ScenarioRefused told before now = now ≡ before
EndCauseBy statuses.ReadFailed told before now = HasRisen told before now
EndCauseBy statuses.WriteFailed told before now = now ≡ before
EndCauseBy statuses.NoMemory told before now = now ≡ before

abbrev pub EndCause : {A : Type 0} → Option A → ℕ → ℕ → Report → Type 0
EndCause told before now report = EndCauseBy report.status told before now
