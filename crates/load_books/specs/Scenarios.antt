-- The scenario of a book's plan.
use Rattle.std.specs.Prelude.{ℕ, if◌then◌else◌, List, [], ◌∷◌, codes, Option, None, Result, Ok, Err}
use Rattle.row_forms.specs.Words.{number}
use Rattle.telecommands.specs.declared.command.Command.{Command}
use Rattle.table_texts.specs.Lines.{Numbered, kept_of}
use Rattle.plan_text.specs.declared.fault.PlanFault.{PlanFault}
use Rattle.timed_plans.specs.Checks.{scenario_said}
use Rattle.load_books.specs.declared.fault.BookFault.{BookFault}
use Rattle.load_books.specs.declared.fault.BookFault.TheVariants as faults
use Rattle.load_books.specs.Cuts.{whole_lines, begins, behind_first}
use Rattle.load_books.specs.Contents.{FileText, PlanText}
use Rattle.load_books.specs.Lines.{plan_fault}
use Rattle.load_books.specs.Naming.{plan_said}
use Rattle.load_books.specs.Files.{sized}

abbrev pub first_number : List (List ℕ) → Option ℕ
first_number [] = None
first_number (w ∷ ws) = number 4294000000 w

abbrev pub epoch_in : List Numbered → Option ℕ
epoch_in [] = None
epoch_in (line ∷ more) = if begins (codes "epoch") line.words then first_number (behind_first line.words) else None

-- the epoch that a plan gives in its first line, as a number
unfoldable pub epoch_said : List ℕ → Option ℕ
epoch_said text = epoch_in (kept_of 1 text)

-- a fault by the line of the book
abbrev pub as_plan : ℕ → Result (List ℕ) PlanFault → Result (List ℕ) BookFault
as_plan part (Ok scenario) = Ok scenario
as_plan part (Err fault) = Err (faults.Plan part (plan_fault part fault))

-- the scenario of a plan in which numbers stand for names
abbrev pub scheduled : ℕ → List Command → Result (List ℕ) BookFault → Result (List ℕ) BookFault
scheduled part cs (Ok text) = sized part text (as_plan part (scenario_said cs text))
scheduled part cs (Err fault) = Err fault

-- the scenario of a book's plan
abbrev pub scenario_of : List Command → List FileText → PlanText → Result (List ℕ) BookFault
scenario_of cs files p = scheduled p.number cs (plan_said p.number files 1 (whole_lines p.text))
