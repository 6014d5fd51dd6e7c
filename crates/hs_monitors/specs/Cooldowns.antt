-- The sendings of a message action in a history, and what the last one leaves of its cooldown.
use Rattle.std.specs.Prelude.{ℕ, ◌-◌, List, map}
use Rattle.histories.specs.Words.{last_or}
use Rattle.hs_actions.specs.Outcomes.{outcomes_in, sendings}
use Rattle.hs_monitors.specs.Histories.{HsEntry, Setup}
use Rattle.hs_monitors.specs.Attempts.{past_of}

-- The wakeups in which a message action was sent.
unfoldable pub sendings_of : Setup → List HsEntry → ℕ → List ℕ
sendings_of setup history place = sendings place (outcomes_in setup.tables.acts (past_of setup history))

-- The cooldown less the wakeups since the last of these sendings, behind so many wakeups; 0 where there is none, or where more went by.
unfoldable pub last_leaves : ℕ → ℕ → List ℕ → ℕ
last_leaves cooldown count sent = last_or 0 (map (λ j. cooldown - (count - 1 - j)) sent)
