-- What the rehearsal of a book leaves in a workspace.
use Rattle.std.specs.Prelude.{◌≡◌, ◌≢◌, ℕ, List, [], map, Ok, Option, Some, ◌⊎◌}
use Rattle.fsw_outside.specs.MemShelf.{told_content, has_open_file, fault_count, marked_faults}
use Rattle.fsw_outside.specs.declared.mem_shelf.MemShelf.{MemShelf}
use Rattle.telecommands.specs.Dictionary.{dictionary, placed}
use Rattle.table_forms.specs.Layouts.{placed as placed_layouts, all_layouts}
use Rattle.load_texts.specs.Headers.{placed_field, all_fields}
use Rattle.load_books.specs.declared.forms.BookForms.{BookForms}
use Rattle.load_books.specs.Books.{BookMade, book_said}
use Rattle.rehearsal.specs.Promise.{ShelfUse, shelf_use}
use Rattle.ground_files.specs.declared.verb_status.Status.{Status}
use Rattle.ground_files.specs.declared.verb_status.Status.TheVariants as statuses
use Rattle.ground_files.specs.Workspaces.{Held, input_bytes, input_taken}
use Rattle.ground_files.specs.Verbs.{KeepsAllFiles}
use Rattle.ground_books.specs.Placed.{IsTextRefused}
use Rattle.ground_runs.specs.declared.asked_run.Run.{Run}
use Rattle.ground_runs.specs.AskedWords.{front_of}
use Rattle.ground_runs.specs.KeptLogs.{staged, EndsRun}
use Rattle.book_rehearsals.specs.ShelvedBooks.{IsShelved}

-- What is seen of a shelf in memory, by how it stands behind a rehearsal.
abbrev pub memory_use : MemShelf → MemShelf → ShelfUse MemShelf
memory_use shelf = shelf_use told_content has_open_file fault_count marked_faults shelf

-- The book that a text says is on a shelf, and these are the words for it.
pub record ShelvesText (text : List ℕ) (front : List (List ℕ)) (shelf : MemShelf) (words : List (List ℕ)) : Type 0 where
  pub forms : BookForms
  pub commands : map placed forms.commands.now ≡ dictionary
  pub layouts : placed_layouts forms.layouts.now ≡ all_layouts
  pub fields : map placed_field forms.fields.now ≡ all_fields
  pub book : BookMade
  pub is_said : book_said forms text ≡ Ok book
  pub shelved : IsShelved book front shelf words

-- The text that the words name was read, and is refused as a book; no file is another.
pub record RefusesBook (run : Run) (before : Held) (after : Option Held) : Type 0 where
  pub text : List ℕ
  pub is_input : input_bytes run.scenario.now before ≡ Some text
  pub is_refused : IsTextRefused text
  pub kept : KeepsAllFiles before after

-- The text that the words name was read, and the book that it says was rehearsed from a shelf that has its own files: so that ended.
pub record RehearsesBook (run : Run) (status : Status) (before : Held) (after : Option Held) : Type 0 where
  pub text : List ℕ
  pub is_input : input_bytes run.scenario.now before ≡ Some text
  pub shelf : MemShelf
  pub words : List (List ℕ)
  pub shelves : ShelvesText text (front_of run.workers run.has_subjects) shelf words
  pub ended : EndsRun (staged words (memory_use shelf)) run status (input_taken run.scenario.now before) after

-- FILEs stand behind the book, and no file is another.
abbrev pub HasFilesBehind : Run → Held → Option Held → Type 0
HasFilesBehind run before after = (run.files.now ≢ []) × KeepsAllFiles before after

-- How the rehearsal of a book ends that is asked for so, and what it leaves.
abbrev pub EndsBook : Run → Status → Held → Option Held → Type 0
EndsBook run statuses.Done before after = RehearsesBook run statuses.Done before after
EndsBook run statuses.WordsRefused before after = HasFilesBehind run before after ⊎ RehearsesBook run statuses.WordsRefused before after
EndsBook run statuses.FileRefused before after = RefusesBook run before after ⊎ RehearsesBook run statuses.FileRefused before after
EndsBook run statuses.ScenarioRefused before after = RehearsesBook run statuses.ScenarioRefused before after
EndsBook run statuses.ReadFailed before after = KeepsAllFiles before after ⊎ RehearsesBook run statuses.ReadFailed before after
EndsBook run statuses.WriteFailed before after = RehearsesBook run statuses.WriteFailed before after
EndsBook run statuses.NoMemory before after = KeepsAllFiles before after
EndsBook run statuses.Unwanted before after = RehearsesBook run statuses.Unwanted before after

-- ---- what the code gives

-- a book isn't made ready: its text is refused, or memory ran out
abbrev pub IsUnready : List ℕ → Status → Type 0
IsUnready text status = ((status ≡ statuses.FileRefused) × IsTextRefused text) ⊎ (status ≡ statuses.NoMemory)
