-- What is done of what is asked for, and what that leaves.
use Rattle.std.specs.Prelude.{◌≡◌, ℕ, List, Option, Some, ◌⊎◌}
use Rattle.rehearsal.specs.Promise.{ShelfUse}
use Rattle.ground_files.specs.declared.verb_status.Status.{Status}
use Rattle.ground_files.specs.declared.verb_status.Status.TheVariants as statuses
use Rattle.ground_files.specs.Workspaces.{Held, put_at}
use Rattle.ground_files.specs.Verbs.{KeepsAllFiles}
use Rattle.ground_making.specs.MadeFiles.{asked_by, EndsMaking}
use Rattle.ground_making.specs.ShownFiles.{names_in, EndsShowing}
use Rattle.ground_books.specs.Placed.{Builds}
use Rattle.ground_checks.specs.Checked.{ChecksFiles}
use Rattle.ground_exports.specs.Exports.{IsExported}
use Rattle.ground_differences.specs.Differences.{IsCompared}
use Rattle.ground_runs.specs.declared.asked_run.Run.{Run}
use Rattle.ground_runs.specs.AskedWords.{words_of}
use Rattle.ground_runs.specs.KeptLogs.{staged, EndsRun}
use Rattle.book_rehearsals.specs.Beginnings.{NamesBook}
use Rattle.book_rehearsals.specs.LeftByBooks.{EndsBook}
use Rattle.ground_verbs.specs.declared.asked.Page.{Page}
use Rattle.ground_verbs.specs.declared.asked.Asked.{Asked}
use Rattle.ground_verbs.specs.declared.asked.Asked.TheVariants as asks

-- A page was put in its place.
pub record PutsPage (page : Page) (before : Held) (after : Option Held) : Type 0 where
  pub text : List ℕ
  pub is_put : after ≡ Some (put_at page.output.now text before)

-- What a status says of a page that was asked for: it is in its place, it couldn't be written, or memory ran out; no other status comes.
abbrev pub WritesPage : Page → Status → Held → Option Held → Type 0
WritesPage page statuses.Done = PutsPage page
WritesPage page statuses.WordsRefused = λ before after. ⊥
WritesPage page statuses.FileRefused = λ before after. ⊥
WritesPage page statuses.ScenarioRefused = λ before after. ⊥
WritesPage page statuses.ReadFailed = λ before after. ⊥
WritesPage page statuses.WriteFailed = KeepsAllFiles
WritesPage page statuses.NoMemory = KeepsAllFiles
WritesPage page statuses.Unwanted = λ before after. ⊥

-- How a rehearsal of a scenario ends, whose shelf is seen so.
abbrev pub EndsScenario : {S : Type 0} → (S → ShelfUse S) → Run → Status → Held → Option Held → Type 0
EndsScenario seen run = EndsRun (staged (words_of run.workers run.has_subjects run.scenario.now run.files.now) seen) run

-- How a rehearsal ends: that of a book, whose name stands in place of a scenario's, or that of a scenario.
abbrev pub IsRehearsed : {S : Type 0} → (S → ShelfUse S) → Run → Status → Held → Option Held → Type 0
IsRehearsed seen run status before after = (NamesBook run before × EndsBook run status before after) ⊎ EndsScenario seen run status before after

-- What was done of what is asked for: the shelf of a rehearsal is seen so.
abbrev pub IsDone : {S : Type 0} → (S → ShelfUse S) → Asked → Status → Held → Option Held → Type 0
IsDone seen (asks.Make wanted) = EndsMaking (asked_by wanted)
IsDone seen (asks.Show shown) = EndsShowing shown (names_in shown)
IsDone seen (asks.Build build) = Builds build
IsDone seen (asks.Check check) = ChecksFiles check
IsDone seen (asks.Rehearse run) = IsRehearsed seen run
IsDone seen (asks.Export exported) = IsExported exported
IsDone seen (asks.Compare pair) = IsCompared pair
IsDone seen (asks.Describe page) = WritesPage page
