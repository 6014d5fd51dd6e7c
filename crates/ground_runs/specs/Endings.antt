-- How a rehearsal ended.
use Rattle.std.specs.Prelude.{ℕ, Bool, true, false, nat_lt}
use Rattle.ground_files.specs.declared.verb_status.Status.{Status}
use Rattle.ground_files.specs.declared.verb_status.Status.TheVariants as statuses
use Rattle.rehearsal.specs.declared.report.Status.{Status as End}
use Rattle.rehearsal.specs.declared.report.Status.TheVariants as ends

-- the status of a rehearsal that ended so
abbrev pub status_at : End → Status
status_at ends.Done = statuses.Done
status_at ends.WordsRefused = statuses.WordsRefused
status_at ends.FileRefused = statuses.FileRefused
status_at ends.ScenarioRefused = statuses.ScenarioRefused
status_at ends.ReadFailed = statuses.ReadFailed
status_at ends.WriteFailed = statuses.WriteFailed
status_at ends.NoMemory = statuses.NoMemory

-- whether the outputs of a rehearsal are kept: they have all frames, or all that the scenario gave before its fault
abbrev pub is_kept : Status → ℕ → Bool
is_kept statuses.Done frames = true
is_kept statuses.WordsRefused frames = false
is_kept statuses.FileRefused frames = false
is_kept statuses.ScenarioRefused frames = nat_lt 0 frames
is_kept statuses.ReadFailed frames = nat_lt 0 frames
is_kept statuses.WriteFailed frames = false
is_kept statuses.NoMemory frames = false
is_kept statuses.Unwanted frames = true

-- whether a status is that of a rehearsal's report: no write failed, and memory didn't run out
abbrev pub is_reported : Status → Bool
is_reported statuses.Done = true
is_reported statuses.WordsRefused = true
is_reported statuses.FileRefused = true
is_reported statuses.ScenarioRefused = true
is_reported statuses.ReadFailed = true
is_reported statuses.WriteFailed = false
is_reported statuses.NoMemory = false
is_reported statuses.Unwanted = true

-- the status as it was before it was looked at what the log holds
abbrev pub unjudged : Status → Status
unjudged statuses.Done = statuses.Done
unjudged statuses.WordsRefused = statuses.WordsRefused
unjudged statuses.FileRefused = statuses.FileRefused
unjudged statuses.ScenarioRefused = statuses.ScenarioRefused
unjudged statuses.ReadFailed = statuses.ReadFailed
unjudged statuses.WriteFailed = statuses.WriteFailed
unjudged statuses.NoMemory = statuses.NoMemory
unjudged statuses.Unwanted = statuses.Done
