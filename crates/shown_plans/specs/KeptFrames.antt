-- What a scenario's reader finds in a scenario that is shown, and in the scenario of its plan.
use Rattle.std.specs.Prelude.{◌≡◌, ℕ, ◌==◌, if◌then◌else◌, true, List, Result, Ok, Err, ◌⊎◌}
use Rattle.std.proofs.Common.{Vec, Global}
use Rattle.scenario.specs.declared.item.Item.{Item as Answer}
use Rattle.scenario.specs.declared.item.Item.TheVariants as answers
use Rattle.scenario.specs.declared.reason.Reason.TheVariants as reasons
use Rattle.scenario.specs.Texts.{Given, Reading, Bad, Ended, reading}
use Rattle.telecommands.specs.declared.command.Command.{Command}
use Rattle.timed_plans.specs.Checks.{reason_numbered, scenario_said}
use Rattle.shown_plans.specs.declared.check.ScenarioFault.{ScenarioFault}
use Rattle.shown_plans.specs.declared.check.ScenarioFault.TheVariants as faults
use Rattle.shown_plans.specs.declared.plan.ShowError.{ShowError}

-- what a scenario's reader finds in a whole text
abbrev pub whole_reading : List ℕ → Reading
whole_reading text = reading (record { bytes = text; closed = true })

-- the fault of a line that a scenario's reader refuses for the reason of this number
abbrev pub fault_numbered : ℕ → ℕ → ScenarioFault
fault_numbered line number = if number == 1 then faults.Words line else faults.Line line (reason_numbered number)

-- a reader's answer behind the items of a text says that no line of it has a fault, or that this is the first one
abbrev pub GivesEnd : Answer → Result (Unit {0}) ScenarioFault → Type 0
GivesEnd answer (Ok done) = answer ≡ answers.End
GivesEnd answer (Err fault) = (line : ℕ) × (number : ℕ) × (answer ≡ answers.Bad line number) × (fault ≡ fault_numbered line number)

-- a reader finds no fault and gives this header and these frames; or the first line with a fault is too long
abbrev pub GivesOrIsLong : List Given → Reading → Type 0
GivesOrIsLong items r = ((r.ending ≡ Ended) × (r.items ≡ items)) ⊎ ((line : ℕ) × (r.ending ≡ Bad line reasons.TooLong))

-- a reader finds no fault in two texts, and in both the header and the frames of the other
abbrev pub HaveSameFrames : List ℕ → List ℕ → Type 0
HaveSameFrames one other =
    ((whole_reading one).ending ≡ Ended) × ((whole_reading other).ending ≡ Ended) × ((whole_reading one).items ≡ (whole_reading other).items)

-- a plan of a scenario: what it says is a scenario with the header and the frames of that one
abbrev pub IsPlanOf : List Command → List ℕ → List ℕ → Type 0
IsPlanOf cs text plan = (made : List ℕ) × (scenario_said cs plan ≡ Ok made) × HaveSameFrames made text

-- a plan that is given is one of the scenario
abbrev pub GivesPlanOf : List Command → List ℕ → Result (Vec ℕ Global) ShowError → Type 0
GivesPlanOf cs text (Ok plan) = IsPlanOf cs text plan.items
GivesPlanOf cs text (Err error) = Unit {0}
