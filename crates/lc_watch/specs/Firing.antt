-- The firings of a history.
use Rattle.std.specs.Prelude.{ℕ, ◌%◌, ◌==◌, Bool, ◌&&◌, List, [], ◌∷◌, ◌++◌, length, filter}
use Rattle.std.specs.List.{range_with_len}
use Rattle.histories.specs.Words.{along, joined_along, last_or}
use Rattle.lc_watch.specs.Actionpoints.{act_at}
use Rattle.lc_watch.specs.Failing.{due_by, Moment, set_by, fired_along}
use Rattle.lc_watch.specs.Histories.{Input, Setup, ordered_at, switches_in, evaluation_at, evaluations_of}
use Rattle.lc_watch.specs.declared.actionpoints.ActRow.{ActRow}
use Rattle.lc_watch.specs.declared.instructions.Instruction.{Instruction}

-- Whether the actionpoint in a place is evaluated in a wakeup, and this is the last of so many evaluations in a row that all fail. Those
-- at which it was passive count too.
abbrev pub is_due : Setup → ℕ → List Input → Input → Bool
is_due setup place earlier input =
    due_by (act_at setup.actions place).failures (evaluations_of setup place earlier) (evaluation_at setup place (earlier ++ input ∷ []))

-- A wakeup as the actionpoint in a place sees it.
abbrev pub moment_at : Setup → ℕ → List Input → Input → Moment
moment_at setup place earlier input = record { switches = switches_in place (ordered_at setup input); due = is_due setup place earlier input }

-- Whether an actionpoint is active by its table.
abbrev pub starts_active : ActRow → Bool
starts_active row = row.state == 1

-- All that set an actionpoint active or passive in a history: commands, and its firings.
unfoldable pub settings_of : Setup → ℕ → List Input → List Bool
settings_of setup place history = set_by (fired_along (starts_active (act_at setup.actions place)) (along (moment_at setup place) history))

-- Whether an actionpoint is active behind a history and what was ordered in the next wakeup so far: by the latest that set it.
abbrev pub is_active : Setup → List Input → List Instruction → ℕ → Bool
is_active setup history orders place = last_or (starts_active (act_at setup.actions place)) (settings_of setup place history ++ switches_in place orders)

-- Whether an actionpoint fires in a wakeup behind a history: it is due, and active once the wakeup's commands were obeyed.
abbrev pub fires : Setup → List Input → Input → ℕ → Bool
fires setup history input place = is_active setup history (ordered_at setup input) place && is_due setup place history input

-- The places of the actionpoints that fire in a wakeup, in table order, and of all that fired in a history.
unfoldable pub fired_at : Setup → List Input → Input → List ℕ
fired_at setup history input = filter (fires setup history input) (range_with_len 0 16)

unfoldable pub fired_of : Setup → List Input → List ℕ
fired_of setup history = joined_along (fired_at setup) history

-- How many firings there were in a history, modulo 65,536.
unfoldable pub fired_count : Setup → List Input → ℕ
fired_count setup history = length (fired_of setup history) % 65536
