-- Lemmas on whole plans.
use Rattle.std.proofs.Common.{◌≡◌, ℕ, true, List, refl, ap, sym, ◌∙◌}
use Rattle.std.specs.Prelude.{Result, Ok, Err}
use Rattle.telecommands.specs.declared.command.Command.{Command}
use Rattle.telecommands.specs.Commands.{are_good}
use Rattle.plan_text.specs.declared.fault.PlanFault.{PlanFault}
use Rattle.plan_text.specs.declared.fault.PlanError.{PlanError}
use Rattle.plan_text.specs.declared.fault.PlanError.TheVariants as errors
use Rattle.timed_plans.specs.declared.page.Page.{Page}
use Rattle.timed_plans.specs.declared.plan.HeldSchedule.{HeldSchedule}
use Rattle.timed_plans.specs.Schedules.{Schedule, PageText}
use Rattle.timed_plans.specs.Pages.{written_on}
use Rattle.timed_plans.specs.Plans.{schedule_said}
use Rattle.timed_plans.specs.Checks.{read_page, read_schedule, page_of, scenario_said, GivesCheck}
use Rattle.timed_plans.specs.Drafts.{Texts, texts_of, shown_of, held_texts, AreWithin, GivesSchedule, GivesText}
use Rattle.timed_plans.proofs.GoodLemmas.{schedule_good, lines_within}

shown_fault : (r : Result Schedule PlanFault) (fault : PlanFault) → shown_of r ≡ Err fault → read_schedule r ≡ Err fault
shown_fault (Ok s) fault e = absurd (cc)
shown_fault (Err f) fault e = let same : f ≡ fault = cc in ap (λ (x : PlanFault). Err x) same

-- a plan with a fault
pub fault_given : (cs : List Command) (text : List ℕ) (e : PlanError) → GivesSchedule (shown_of (schedule_said cs text)) (Err e) → GivesText (scenario_said cs text) (Err e)
unfolding scenario_said
fault_given cs text (errors.Memory e) given = tt
fault_given cs text (errors.Plan fault) given = shown_fault (schedule_said cs text) fault given

shown_schedule : (r : Result Schedule PlanFault) (t : Texts) → shown_of r ≡ Ok t → (s : Schedule) × (r ≡ Ok s) × (texts_of s ≡ t)
shown_schedule (Ok s) t e = (s, refl, cc)
shown_schedule (Err f) t e = absurd (cc)

-- the page of a plan is read
page_read : (cs : List Command) (text : List ℕ) (h : HeldSchedule) (p : PageText) → are_good cs ≡ true → shown_of (schedule_said cs text) ≡ Ok (held_texts h) → ((s : Schedule) → texts_of s ≡ held_texts h → AreWithin s.frames s.lines → p ≡ page_of s) → scenario_said cs text ≡ read_page p
unfolding scenario_said
page_read cs text h p good said writes =
    let w = shown_schedule (schedule_said cs text) (held_texts h) said in
    ap read_schedule w.1 ∙ ap read_page (sym (writes w.0 w.2 (lines_within w.0 (schedule_good cs text w.0 good w.1))))

-- a scenario is made
pub text_given : (cs : List Command) (text : List ℕ) (h : HeldSchedule) (page : Page) → are_good cs ≡ true → shown_of (schedule_said cs text) ≡ Ok (held_texts h) → ((s : Schedule) → texts_of s ≡ held_texts h → AreWithin s.frames s.lines → written_on page ≡ page_of s) → GivesCheck (written_on page) (Ok tt) → scenario_said cs text ≡ Ok page.text.items
text_given cs text h page good said writes read = page_read cs text h (written_on page) good said writes ∙ read

-- the reader finds a fault
pub check_given : (cs : List Command) (text : List ℕ) (h : HeldSchedule) (page : Page) (e : PlanError) → are_good cs ≡ true → shown_of (schedule_said cs text) ≡ Ok (held_texts h) → ((s : Schedule) → texts_of s ≡ held_texts h → AreWithin s.frames s.lines → written_on page ≡ page_of s) → GivesCheck (written_on page) (Err e) → GivesText (scenario_said cs text) (Err e)
check_given cs text h page (errors.Memory e) good said writes read = tt
check_given cs text h page (errors.Plan fault) good said writes read = page_read cs text h (written_on page) good said writes ∙ read
