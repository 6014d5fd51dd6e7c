-- What the rehearsal of a book comes to.
use Rattle.std.specs.Prelude.{◌≡◌, ℕ, List, Option, Some, None}
use Rattle.fsw_outside.specs.Told.{WhereTold}
use Rattle.fsw_outside.specs.declared.mem_shelf.MemShelf.{MemShelf}
use Rattle.subjects.specs.Plans.{Simulated}
use Rattle.rehearsal.specs.Words.{Asked, accepted_words}
use Rattle.rehearsal.specs.Files.{first_refusal}
use Rattle.rehearsal.specs.Outcome.{Completes}
use Rattle.rehearsal.specs.Promise.{ShelfUse, SinkUse, text_of, CanBeRun}
use Rattle.rehearsal.specs.declared.report.Report.{Report}
use Rattle.load_books.specs.Books.{BookMade}
use Rattle.book_rehearsals.specs.ShelvedBooks.{files_in_book, scenario_name, names_in_book}

-- Words that ask for the rehearsal of a book: for its scenario and its files.
pub record AsksForBook (b : BookMade) (words : List (List ℕ)) (asked : Asked) : Type 0 where
  pub accepted : accepted_words words ≡ Some asked
  pub scenario : asked.scenario ≡ scenario_name
  pub files : asked.files ≡ names_in_book b

-- None of a book's files is refused, and they can be run with its scenario.
pub record CanBeRehearsed (b : BookMade) : Type 0 where
  pub taken : first_refusal (files_in_book b) ≡ None
  pub run : CanBeRun (files_in_book b) (text_of b.scenario)

-- The whole log of a book was written, or memory ran out before the first frame.
abbrev pub CompletesBook : {O : Type 0} → Report → BookMade → Option (List Simulated) → ShelfUse MemShelf → SinkUse O → Type 0
CompletesBook report b crowd shelf out =
    WhereTold shelf.told_before shelf.told_now (λ before now. WhereTold out.held_before out.held_now (Completes report (files_in_book b) crowd (text_of b.scenario)))
