-- What a scenario's reader finds in the lines that are made.
use Rattle.std.specs.Prelude.{◌≡◌, ℕ, ◌-◌, ◌==◌, if◌then◌else◌, true, List, slice_index, Result, Ok, Err}
use Rattle.scenario.specs.Texts.{reading}
use Rattle.scenario.specs.Answers.{answer_at_end}
use Rattle.scenario.specs.declared.item.Item.{Item as Answer}
use Rattle.scenario.specs.declared.item.Item.TheVariants as answers
use Rattle.telecommands.specs.declared.command.Command.{Command}
use Rattle.plan_text.specs.declared.fault.LineReason.{LineReason}
use Rattle.plan_text.specs.declared.fault.LineReason.TheVariants as line_reasons
use Rattle.plan_text.specs.declared.fault.PlanReason.TheVariants as reasons
use Rattle.plan_text.specs.declared.fault.PlanFault.{PlanFault}
use Rattle.plan_text.specs.declared.fault.PlanError.{PlanError}
use Rattle.plan_text.specs.declared.fault.PlanError.TheVariants as errors
use Rattle.plan_text.specs.Lines.{text_of}
use Rattle.plan_text.specs.Plans.{fault_on}
use Rattle.timed_plans.specs.Schedules.{Schedule, PageText, scenario_lines, words_of, numbers_of}
use Rattle.timed_plans.specs.Plans.{schedule_said}

-- a reason of a scenario's reader, by its number
unfoldable pub reason_numbered : ℕ → LineReason
reason_numbered n =
    if n == 1 then line_reasons.Words
    else if n == 2 then line_reasons.Number
    else if n == 3 then line_reasons.Packet
    else if n == 4 then line_reasons.Map
    else if n == 5 then line_reasons.Items
    else if n == 6 then line_reasons.Long
    else line_reasons.Unended

-- a fault of the n-th line, counted from 1, of lines that the plan's lines of these numbers say
abbrev pub fault_at_line : List ℕ → ℕ → ℕ → PlanFault
fault_at_line numbers n reason = fault_on (slice_index numbers (n - 1)) (reasons.Line (reason_numbered reason))

-- what is said of a text whose lines have these numbers, by what a reader answers at its end
abbrev pub checked : PageText → Answer → Result (List ℕ) PlanFault
checked p answers.Header = Err (fault_at_line p.numbers 0 7)
checked p answers.Frame = Err (fault_at_line p.numbers 0 7)
checked p answers.More = Err (fault_at_line p.numbers 0 7)
checked p answers.End = Ok p.text
checked p (answers.Bad n reason) = Err (fault_at_line p.numbers n reason)

-- how a reader's answers end at this text
abbrev pub answered : List ℕ → Answer
answered text = answer_at_end (reading (record { bytes = text; closed = true })).ending

-- the lines of a schedule, by their text and their numbers
abbrev pub page_of : Schedule → PageText
page_of s = record { text = text_of (words_of (scenario_lines s)); numbers = numbers_of (scenario_lines s) }

abbrev pub read_page : PageText → Result (List ℕ) PlanFault
read_page p = checked p (answered p.text)

abbrev pub read_schedule : Result Schedule PlanFault → Result (List ℕ) PlanFault
read_schedule (Ok s) = read_page (page_of s)
read_schedule (Err fault) = Err fault

-- the scenario that a plan is, or the first fault: of the plan's lines, or of what a scenario's reader finds in those that they say
unfoldable pub scenario_said : List Command → List ℕ → Result (List ℕ) PlanFault
scenario_said cs text = read_schedule (schedule_said cs text)

-- ---- what the code gives

-- the page is read well, or its first fault is told; and memory may end
abbrev pub GivesCheck : PageText → Result (Unit {0}) PlanError → Type 0
GivesCheck p (Ok done) = read_page p ≡ Ok p.text
GivesCheck p (Err (errors.Memory e)) = Unit {0}
GivesCheck p (Err (errors.Plan fault)) = read_page p ≡ Err fault

-- a plan says the lines of this text
abbrev pub IsSaid : Result Schedule PlanFault → List ℕ → Type 0
IsSaid (Ok s) text = text_of (words_of (scenario_lines s)) ≡ text
IsSaid (Err fault) text = ⊥
