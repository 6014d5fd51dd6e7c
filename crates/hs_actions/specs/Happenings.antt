-- What befalls the actions: commands that clear the resets made or set their maximum, and attempts of the monitors' entries.
use Rattle.std.specs.Prelude.{ℕ, ◌-◌, ◌==◌, ◌<◌, Bool, true, false, if◌then◌else◌, List, Option, Some, None}
use Rattle.hs_actions.specs.declared.action.Action.{Action}
use Rattle.hs_actions.specs.declared.action.Action.TheVariants.{Reset, Restart, Report, Message}
use Rattle.hs_actions.specs.declared.action.Source.{Source}

-- The action of a number from 1 to 11.
abbrev pub action_of : ℕ → Action
action_of number =
    if number == 1 then Reset
    else if number == 2 then Restart
    else if number == 3 then Report
    else Message (number - 4)

-- A message action names one of the 8 places.
abbrev pub HasPlace : Action → Type 0
HasPlace Reset = Unit {0}
HasPlace Restart = Unit {0}
HasPlace Report = Unit {0}
HasPlace (Message place) = place < 8

-- An attempt: its wakeup, numbered from 0, the kind of the entry that acts, and the entry's name and action.
pub record Attempt : Type 0 where
  pub wakeup : ℕ
  pub source : Source
  pub name : List ℕ
  pub action : Action

-- The attempt in wakeup k of an entry whose action has this number.
abbrev pub attempt_by : Source → List ℕ → ℕ → ℕ → Attempt
attempt_by source name number k = record { wakeup = k; source = source; name = name; action = action_of number }

-- The resets made are cleared, the maximum of resets is set, or an entry acts.
pub data Happening : Type 0 where
  Clears : Happening
  Limits : ℕ → Happening
  Attempts : Attempt → Happening

-- Whether the resets made are cleared.
abbrev pub clears : Happening → Bool
clears Clears = true
clears (Limits n) = false
clears (Attempts a) = false

-- The maximum that is set, where one is.
abbrev pub limit_in : Happening → Option ℕ
limit_in Clears = None
limit_in (Limits n) = Some n
limit_in (Attempts a) = None

-- Whether an action that passes a test is attempted.
abbrev pub attempts : (Action → Bool) → Happening → Bool
attempts test Clears = false
attempts test (Limits n) = false
attempts test (Attempts a) = test a.action

-- The wakeup of an attempt, 0 for what is none.
abbrev pub wakeup_in : Happening → ℕ
wakeup_in Clears = 0
wakeup_in (Limits n) = 0
wakeup_in (Attempts a) = a.wakeup

-- A processor reset, a message action, and the one in a place of the table, from 0.
abbrev pub is_reset : Action → Bool
is_reset Reset = true
is_reset Restart = false
is_reset Report = false
is_reset (Message place) = false

abbrev pub is_message : Action → Bool
is_message Reset = false
is_message Restart = false
is_message Report = false
is_message (Message place) = true

abbrev pub is_message_in : ℕ → Action → Bool
is_message_in place Reset = false
is_message_in place Restart = false
is_message_in place Report = false
is_message_in place (Message sent) = sent == place
