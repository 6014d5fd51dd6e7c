-- What becomes of groundkit's words.
use Rattle.std.specs.Prelude.{◌≡◌, ℕ, List, [], Option, Some, None, ◌⊎◌}
use Rattle.clap.specs.Walk.{Row, Text}
use Rattle.clap.specs.Kinds.{Kinds, IsAmong}
use Rattle.clap.specs.Faults.{fault_of}
use Rattle.clap.specs.declared.error.kind.ErrorKind.{ErrorKind}
use Rattle.clap.specs.declared.error.kind.ErrorKind.TheVariants as kinds
use Rattle.clap.specs.declared.builder.value_parser.ValueParser.{ValueParser}
use Rattle.rehearsal.specs.Promise.{ShelfUse}
use Rattle.verb_words.specs.declared.verbs.Verb.{Verb}
use Rattle.verb_words.specs.Verbs.{verb_named}
use Rattle.verb_words.specs.Words.{groundkit_app}
use Rattle.verb_words.specs.Reading.{verb_in}
use Rattle.ground_files.specs.declared.verb_status.Status.{Status}
use Rattle.ground_files.specs.declared.verb_status.Status.TheVariants as statuses
use Rattle.ground_files.specs.Workspaces.{Held}
use Rattle.ground_verbs.specs.declared.asked.Asked.{Asked}
use Rattle.ground_verbs.specs.Said.{IsAsked}
use Rattle.ground_verbs.specs.Done.{IsDone}

-- the status where clap gives this kind of error: help and the version are asked for, memory ran out, or the words are refused
abbrev pub error_status : ErrorKind → Status
error_status kinds.DisplayHelp = statuses.Done
error_status kinds.DisplayVersion = statuses.Done
error_status kinds.OutOfMemory = statuses.NoMemory
error_status other = statuses.WordsRefused

-- The status of an error of the words: that of its kind, or, where help or the version couldn't be printed that was asked for, that of a failed write.
abbrev pub IsErrorStatus : ErrorKind → Status → Type 0
IsErrorStatus kind status = (status ≡ error_status kind) ⊎ ((error_status kind ≡ statuses.Done) × (status ≡ statuses.WriteFailed))

-- An error of the words came, one of these kinds, or memory ran out: nothing is another.
pub record RefusesWords (faults : Kinds) (status : Status) (before : Held) (after : Option Held) : Type 0 where
  pub kind : ErrorKind
  pub is_fault : (kind ≡ kinds.OutOfMemory) ⊎ IsAmong kind faults
  pub is_status : IsErrorStatus kind status
  pub same : after ≡ Some before

-- No verb is named.
pub record NamesNoVerb (status : Status) (before : Held) (after : Option Held) : Type 0 where
  pub is_status : status ≡ statuses.WordsRefused
  pub same : after ≡ Some before

-- What the words behind a verb ask for was done.
pub record DoesVerb {S : Type 0} (seen : S → ShelfUse S) (verb : Verb) (rows : List Row) (status : Status) (before : Held) (after : Option Held) : Type 0 where
  pub asked : Asked
  pub is_asked : IsAsked verb rows asked
  pub is_done : IsDone seen asked status before after

abbrev pub DoesNamed : {S : Type 0} → (S → ShelfUse S) → Option Verb → List Row → Status → Held → Option Held → Type 0
DoesNamed seen None rows = NamesNoVerb
DoesNamed seen (Some verb) rows = DoesVerb seen verb rows

abbrev pub DoesAny : {S : Type 0} → (S → ShelfUse S) → Option (Text × List Row) → Status → Held → Option Held → Type 0
DoesAny seen None = NamesNoVerb
DoesAny seen (Some (name, rows)) = DoesNamed seen (verb_named name) rows

-- What becomes of words, of which the first is the program's, by what clap's definitions say for the command line: where they have a fault,
-- nothing is another, and the status is the fault's; and else what the verb in them asks for is done, unless memory runs out.
abbrev pub FollowsWords : {S : Type 0} → (S → ShelfUse S) → List (List ℕ) → Status → Held → Option Held → Type 0
FollowsWords seen words status before after = (shells : Option ValueParser)
    × (RefusesWords (fault_of (groundkit_app shells) words) status before after
    ⊎ ((fault_of (groundkit_app shells) words ≡ []) × DoesAny seen (verb_in shells words) status before after))
