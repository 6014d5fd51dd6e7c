-- Whole books.
use Rattle.std.specs.Prelude.{◌≡◌, ℕ, Bool, false, if◌then◌else◌, List, [], ◌∷◌, map, codes, Option, Some, None, Result, Ok, Err}
use Rattle.table_texts.specs.Lines.{Numbered, kept_of}
use Rattle.load_books.specs.declared.fault.BookReason.TheVariants as reasons
use Rattle.load_books.specs.declared.fault.BookFault.{BookFault}
use Rattle.load_books.specs.declared.fault.BookFault.TheVariants as faults
use Rattle.load_books.specs.declared.fault.BookError.{BookError}
use Rattle.load_books.specs.declared.fault.BookError.TheVariants as errors
use Rattle.load_books.specs.declared.forms.BookForms.{BookForms}
use Rattle.load_books.specs.declared.reading.BookHead.{BookHead}
use Rattle.load_books.specs.declared.reading.Book.{Book}
use Rattle.load_books.specs.Cuts.{Cut, cut_of, begins, behind_first}
use Rattle.load_books.specs.Titles.{is_part_name}
use Rattle.load_books.specs.Contents.{BookText, PlanText, no_parts, all_added}
use Rattle.load_books.specs.Files.{FileMade, file_made, files_said, sized}
use Rattle.load_books.specs.Scenarios.{epoch_said, scenario_of}

-- the first line of a book: its number, and the book's name
pub record Head : Type 0 where
  pub number : ℕ
  pub name : List ℕ

abbrev pub head_on : ℕ → List ℕ → Head
head_on n name = record { number = n; name = name }

-- the words behind `book`: a name alone
abbrev pub name_alone : List (List ℕ) → Option (List ℕ)
name_alone [] = None
name_alone (name ∷ []) = if is_part_name name then Some name else None
name_alone (name ∷ w ∷ ws) = None

-- no line that says something stands between the first one and the first part
abbrev pub named_head : ℕ → Option (List ℕ) → List Numbered → Result Head BookFault
named_head n None more = Err (faults.Line n reasons.Book)
named_head n (Some name) [] = Ok (head_on n name)
named_head n (Some name) (other ∷ more) = Err (faults.Line other.number reasons.Part)

-- the lines in front of the first part: `book NAME`
unfoldable pub head_said : List Numbered → Result Head BookFault
head_said [] = Err (faults.Line 1 reasons.Book)
head_said (line ∷ more) =
    if begins (codes "book") line.words then named_head line.number (name_alone (behind_first line.words)) more
    else Err (faults.Line line.number reasons.Book)

-- what a book says: its name, its files, and its scenario
pub record BookMade : Type 0 where
  pub name : List ℕ
  pub files : List FileMade
  pub scenario : List ℕ

-- the files come before the scenario
abbrev pub made : List ℕ → Result (List FileMade) BookFault → Result (List ℕ) BookFault → Result BookMade BookFault
made name (Ok files) (Ok scenario) = Ok (record { name = name; files = files; scenario = scenario })
made name (Ok files) (Err fault) = Err fault
made name (Err fault) said = Err fault

abbrev pub with_plan : BookForms → Head → BookText → Option PlanText → Result BookMade BookFault
with_plan f head b None = Err (faults.Line head.number reasons.Planless)
with_plan f head b (Some p) = sized p.number p.text (made head.name (files_said f (epoch_said p.text) b.files) (scenario_of f.commands.now b.files p))

-- the files and the scenario of a book's parts
abbrev pub planned : BookForms → Head → BookText → Result BookMade BookFault
planned f head b = with_plan f head b b.plan

abbrev pub of_parts : BookForms → Result Head BookFault → Result BookText BookFault → Result BookMade BookFault
of_parts f (Ok head) (Ok b) = planned f head b
of_parts f (Ok head) (Err fault) = Err fault
of_parts f (Err fault) said = Err fault

abbrev pub of_cut : BookForms → Cut → Result BookMade BookFault
of_cut f c = of_parts f (head_said (kept_of 1 c.front)) (all_added no_parts c.parts)

-- what a book says, or its first fault
unfoldable pub book_said : BookForms → List ℕ → Result BookMade BookFault
book_said f text = of_cut f (cut_of 1 text)

abbrev pub begins_book : List Numbered → Bool
begins_book [] = false
begins_book (line ∷ more) = begins (codes "book") line.words

-- whether a text is a book
unfoldable pub is_book_text : List ℕ → Bool
is_book_text text = begins_book (kept_of 1 text)

-- ---- what the code gives

abbrev pub head_of : BookHead → Head
head_of h = record { number = h.number; name = h.name.now }

abbrev pub GivesHead : Result Head BookFault → Result BookHead BookFault → Type 0
GivesHead said (Ok h) = said ≡ Ok (head_of h)
GivesHead said (Err fault) = said ≡ Err fault

abbrev pub book_made : Book → BookMade
book_made b = record { name = b.name.now; files = map file_made b.files.items; scenario = b.scenario.items }

-- the book is what is said; a fault is told only where there is one; and memory may end
abbrev pub GivesBook : Result BookMade BookFault → Result Book BookError → Type 0
GivesBook said (Ok b) = said ≡ Ok (book_made b)
GivesBook said (Err (errors.Memory e)) = Unit {0}
GivesBook said (Err (errors.Book fault)) = said ≡ Err fault
