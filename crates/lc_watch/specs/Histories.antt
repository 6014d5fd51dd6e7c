-- What LC reads, and the evaluations of its actionpoints in a history.
use Rattle.std.specs.Prelude.{ℕ, ◌+◌, ◌==◌, Bool, if◌then◌else◌, List, [], ◌∷◌, ◌++◌, filter_map, option_to_list, Option, Some, None}
use Rattle.std.specs.List.{flat_map}
use Rattle.histories.specs.Words.{joined_along}
use Rattle.commands.specs.Verdicts.{orders_in, verdicts_on}
use Rattle.commands.specs.Inputs.{Input as CommandInput}
use Rattle.commands.specs.declared.verdicts.Verdict.{Verdict}
use Rattle.lc_watch.specs.Outcomes.{outcome_at}
use Rattle.lc_watch.specs.Actionpoints.{act_at, evaluation_of}
use Rattle.lc_watch.specs.Verdicts.{lc_protocol}
use Rattle.lc_watch.specs.declared.watchpoints.WatchRow.{WatchRow}
use Rattle.lc_watch.specs.declared.actionpoints.ActRow.{ActRow}
use Rattle.lc_watch.specs.declared.instructions.Instruction.{Instruction}
use Rattle.lc_watch.specs.declared.instructions.Instruction.TheVariants.{Plain, Switch}

-- What LC reads in a wakeup: beside its commands it sees the packets of its telemetry pipe.
abbrev pub Input : Type 0
Input = CommandInput (List (List ℕ))

-- The input of a wakeup at this time with these packets.
abbrev pub input_of : ℕ → List (List ℕ) → List (List ℕ) → Input
input_of now commands telemetry = record { time = now; commands = commands; seen = telemetry }

-- The two tables, in force all the time.
pub record Setup : Type 0 where
  pub watch : List WatchRow
  pub actions : List ActRow

abbrev pub setup_of : List WatchRow → List ActRow → Setup
setup_of watch actions = record { watch = watch; actions = actions }

-- The verdicts on the packets of a wakeup, and what was ordered in it.
abbrev pub heard_at : Setup → Input → List (Verdict Instruction)
heard_at setup input = verdicts_on lc_protocol setup.actions input.commands

abbrev pub ordered_at : Setup → Input → List Instruction
ordered_at setup input = orders_in (heard_at setup input)

-- What an order sets the actionpoint in a place to, where it names it: active or passive.
abbrev pub switch_of : ℕ → Instruction → Option Bool
switch_of place Plain = None
switch_of place (Switch number on) = if number == place + 1 then Some on else None

abbrev pub switches_in : ℕ → List Instruction → List Bool
switches_in place orders = filter_map (switch_of place) orders

-- All telemetry that was taken in these wakeups, in order.
unfoldable pub telemetry_of : List Input → List (List ℕ)
telemetry_of history = flat_map (λ input. input.seen) history

-- What the evaluation of the actionpoint in a place comes to in the last of these wakeups, and in all of them where it was evaluated.
abbrev pub evaluation_at : Setup → ℕ → List Input → Option Bool
evaluation_at setup place history = evaluation_of (outcome_at setup.watch (telemetry_of history)) (act_at setup.actions place)

unfoldable pub evaluations_of : Setup → ℕ → List Input → List Bool
evaluations_of setup place history = joined_along (λ earlier input. option_to_list (evaluation_at setup place (earlier ++ input ∷ []))) history
