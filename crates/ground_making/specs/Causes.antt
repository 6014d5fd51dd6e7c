-- What the status of a verb says of why it ended so.
use Rattle.std.specs.Prelude.{◌≢◌}
use Rattle.ground_files.specs.declared.verb_status.Status.{Status}
use Rattle.ground_files.specs.declared.verb_status.Status.TheVariants as statuses
use Rattle.ground_making.specs.declared.making.Refusal.{Refusal}
use Rattle.ground_making.specs.declared.making.Refusal.TheVariants as refusals

-- A status has its cause: where the words are refused `words` holds, and where a file is refused `file` does. No verb that makes files ends with
-- a refused scenario or with what is unwanted. Of a read or a write that failed, and of want of memory, nothing is known.
abbrev pub IsCaused : Type 0 → Type 0 → Status → Type 0
IsCaused words file statuses.Done = Unit {0}
IsCaused words file statuses.WordsRefused = words
IsCaused words file statuses.FileRefused = file
IsCaused words file statuses.ScenarioRefused = ⊥
IsCaused words file statuses.ReadFailed = Unit {0}
IsCaused words file statuses.WriteFailed = Unit {0}
IsCaused words file statuses.NoMemory = Unit {0}
IsCaused words file statuses.Unwanted = ⊥

-- a refusal that was told, and the status: memory may end while it is told
abbrev pub IsToldBy : Refusal → Status → Type 0
IsToldBy refusal statuses.Done = ⊥
IsToldBy refusal statuses.WordsRefused = ⊥
IsToldBy refusal statuses.FileRefused = refusal ≢ refusals.Memory
IsToldBy refusal statuses.ScenarioRefused = ⊥
IsToldBy refusal statuses.ReadFailed = ⊥
IsToldBy refusal statuses.WriteFailed = ⊥
IsToldBy refusal statuses.NoMemory = Unit {0}
IsToldBy refusal statuses.Unwanted = ⊥
