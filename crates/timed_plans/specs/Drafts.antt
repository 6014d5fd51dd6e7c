-- What a draft holds of a plan, and what it gives.
use Rattle.std.specs.Prelude.{◌≡◌, ℕ, ◌<◌, List, ◌++◌, map, Result, Ok, Err}
use Rattle.std.specs.List.{AllByRecursion}
use Rattle.std.proofs.Common.{Vec, Global}
use Rattle.telecommands.specs.declared.command.Command.{Command}
use Rattle.table_texts.specs.Lines.{Numbered}
use Rattle.plan_text.specs.declared.fault.PlanFault.{PlanFault}
use Rattle.plan_text.specs.declared.fault.LineError.{LineError}
use Rattle.plan_text.specs.declared.fault.LineError.TheVariants as line_errors
use Rattle.plan_text.specs.declared.fault.PlanError.{PlanError}
use Rattle.plan_text.specs.declared.fault.PlanError.TheVariants as errors
use Rattle.plan_text.specs.Plans.{fault_on}
use Rattle.timed_plans.specs.declared.stage.Stage.{Stage}
use Rattle.timed_plans.specs.declared.page.Page.{Page}
use Rattle.timed_plans.specs.declared.plan.Draft.{Draft}
use Rattle.timed_plans.specs.declared.plan.HeldSchedule.{HeldSchedule}
use Rattle.timed_plans.specs.Schedules.{Timed, Schedule, LineText, shown, held_in}
use Rattle.timed_plans.specs.Pages.{written_on}
use Rattle.timed_plans.specs.Plans.{staged}
use Rattle.timed_plans.specs.Checks.{page_of}

-- a schedule by the texts of its lines
pub record Texts : Type 0 where
  pub head : List LineText
  pub lines : List LineText
  pub frames : ℕ
  pub last : ℕ

abbrev pub texts_of : Schedule → Texts
texts_of s = record { head = map shown s.head; lines = map shown s.lines; frames = s.frames; last = s.last }

abbrev pub shown_of : Result Schedule PlanFault → Result Texts PlanFault
shown_of (Ok s) = Ok (texts_of s)
shown_of (Err fault) = Err fault

-- texts in front of what is said
abbrev pub put_front : List LineText → List LineText → Result Texts PlanFault → Result Texts PlanFault
put_front head lines (Ok t) = Ok (record { head = head ++ t.head; lines = lines ++ t.lines; frames = t.frames; last = t.last })
put_front head lines (Err fault) = Err fault

-- what is said behind the lines of a draft
abbrev pub behind : Draft → Result Texts PlanFault → Result Texts PlanFault
behind d said = put_front (held_in d.head.items) (held_in d.lines.items) said

-- a line was read, and the plan has come so far: whatever the lines behind it say, the draft says it with them
abbrev pub GivesRead : List Command → Numbered → Draft → Draft → Result Stage LineError → Type 0
GivesRead cs line old new (Ok stage) =
    (next : Stage → Result Schedule PlanFault) → behind old (shown_of (staged cs old.stage line next)) ≡ behind new (shown_of (next stage))
GivesRead cs line old new (Err (line_errors.Memory e)) = Unit {0}
GivesRead cs line old new (Err (line_errors.Because reason)) =
    (next : Stage → Result Schedule PlanFault) → staged cs old.stage line next ≡ Err (fault_on line.number reason)

abbrev pub GivesDraft : List Command → Numbered → Draft → Draft → Result (Unit {0}) LineError → Type 0
GivesDraft cs line old new (Ok done) = GivesRead cs line old new (Ok new.stage)
GivesDraft cs line old new (Err e) = GivesRead cs line old new (Err e)

abbrev pub held_texts : HeldSchedule → Texts
held_texts s = record { head = held_in s.head.items; lines = held_in s.lines.items; frames = s.frames; last = s.last }

-- a plan ends where the draft's lines do
abbrev pub GivesEnd : Result Schedule PlanFault → Draft → Result HeldSchedule PlanFault → Type 0
GivesEnd said d (Ok s) = behind d (shown_of said) ≡ Ok (held_texts s)
GivesEnd said d (Err fault) = said ≡ Err fault

abbrev pub GivesSchedule : Result Texts PlanFault → Result HeldSchedule PlanError → Type 0
GivesSchedule said (Ok s) = said ≡ Ok (held_texts s)
GivesSchedule said (Err (errors.Memory e)) = Unit {0}
GivesSchedule said (Err (errors.Plan fault)) = said ≡ Err fault

-- each line stands in one of so many frames
abbrev pub AreWithin : ℕ → List Timed → Type 0
AreWithin n lines = AllByRecursion (λ (t : Timed). t.frame < n) lines

-- the page of a schedule whose lines stand within its frames
abbrev pub Writes : {E : Type 0} → HeldSchedule → Result Page E → Type 0
Writes held (Ok page) = (s : Schedule) → texts_of s ≡ held_texts held → AreWithin s.frames s.lines → written_on page ≡ page_of s
Writes held (Err e) = Unit {0}

abbrev pub GivesText : Result (List ℕ) PlanFault → Result (Vec ℕ Global) PlanError → Type 0
GivesText said (Ok text) = said ≡ Ok text.items
GivesText said (Err (errors.Memory e)) = Unit {0}
GivesText said (Err (errors.Plan fault)) = said ≡ Err fault
