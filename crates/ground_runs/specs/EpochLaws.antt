-- The epoch of the words has no part in how a rehearsal ends: it is what the sentences of its log count from.
use Rattle.std.proofs.Common.{inl, inr}
use Rattle.std.specs.Prelude.{ℕ, Option}
use Rattle.ground_files.specs.Workspaces.{Held}
use Rattle.ground_files.specs.declared.verb_status.Status.{Status}
use Rattle.ground_files.specs.declared.verb_status.Status.TheVariants as statuses
use Rattle.ground_runs.specs.declared.asked_run.Run.{Run}
use Rattle.ground_runs.specs.KeptLogs.{Staged, Settles, KeepsLogAlone, EndsRun}

-- the words with another epoch
abbrev pub at_epoch : Option ℕ → Run → Run
at_epoch epoch run = record run { epoch = epoch }

settles : {S : Type 0} (what : Staged S) (epoch : Option ℕ) (run : Run) (status : Status) (before : Held) (after : Option Held) → Settles what (at_epoch epoch run) status before after → Settles what run status before after
settles what epoch run status before after it = record { bytes = it.bytes; comes = it.comes; text = it.text; summed = it.summed; settled = it.settled }

keeps_alone : {S : Type 0} (what : Staged S) (epoch : Option ℕ) (run : Run) (before : Held) (after : Option Held) → KeepsLogAlone what (at_epoch epoch run) before after → KeepsLogAlone what run before after
keeps_alone what epoch run before after it = record { log = it.log; is_named = it.is_named; status = it.status; bytes = it.bytes; comes = it.comes; kept = it.kept; files = it.files }

-- what ends so by words with another epoch ends so by these
pub ends_at_epoch : {S : Type 0} (what : Staged S) (epoch : Option ℕ) (run : Run) (status : Status) (before : Held) (after : Option Held) → EndsRun what (at_epoch epoch run) status before after → EndsRun what run status before after
ends_at_epoch what epoch run statuses.Done before after it = settles what epoch run statuses.Done before after it
ends_at_epoch what epoch run statuses.WordsRefused before after it = it
ends_at_epoch what epoch run statuses.FileRefused before after it = it
ends_at_epoch what epoch run statuses.ScenarioRefused before after it = settles what epoch run statuses.ScenarioRefused before after it
ends_at_epoch what epoch run statuses.ReadFailed before after it = settles what epoch run statuses.ReadFailed before after it
ends_at_epoch what epoch run statuses.WriteFailed before after it = elim it [ inl keeps ↦ inl keeps | inr alone ↦ inr (keeps_alone what epoch run before after alone) ]
ends_at_epoch what epoch run statuses.NoMemory before after it = it
ends_at_epoch what epoch run statuses.Unwanted before after it = (it.0, settles what epoch run statuses.Unwanted before after it.1)
