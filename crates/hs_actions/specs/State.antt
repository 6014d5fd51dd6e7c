-- When the state of the actions stands for what was before.
use Rattle.std.specs.Prelude.{◌≡◌, ℕ, ◌+◌, ◌-◌, ◌<◌, nat_lt, max, Bool, List, get_or}
use Rattle.std.specs.List.{fold, list_any, range_with_len}
use Rattle.hs_tables.specs.declared.actions.ActRow.{ActRow}
use Rattle.hs_actions.specs.Outcomes.{Beginning, Outcomes, Past, outcomes_in, made_of, max_of, sendings, sent_of, act_at}
use Rattle.hs_actions.specs.declared.state.Actions.{Actions}

-- The resets made.
abbrev pub resets_made : Actions → ℕ
resets_made a = a.made

-- The maximum of resets.
abbrev pub resets_most : Actions → ℕ
resets_most a = a.max

-- The message actions sent, modulo 65,536.
abbrev pub actions_sent : Actions → ℕ
actions_sent a = a.sent

-- What is left of the cooldown behind a sending in wakeup j, once so many wakeups have begun.
abbrev pub left_by : ℕ → ℕ → ℕ → ℕ
left_by cooldown wakeups j = j + 1 + cooldown - wakeups

-- The most that any of these sendings leaves.
unfoldable pub left_of : ℕ → ℕ → List ℕ → ℕ
left_of cooldown wakeups sent = fold (λ most j. max most (left_by cooldown wakeups j)) 0 sent

-- The state stands for the outcomes since a beginning.
pub record StandsOn (acts : List ActRow) (begins : Beginning) (wakeups : ℕ) (earlier : Outcomes) (a : Actions) : Type 0 where
  pub cooldowns : (place : ℕ) → place < 8 → get_or a.cooldowns place 0 ≡ left_of (act_at acts place).cooldown wakeups (sendings place earlier)
  pub made : resets_made a ≡ made_of begins earlier
  pub max : resets_most a ≡ max_of begins earlier
  pub sent : actions_sent a ≡ sent_of earlier

-- The state stands for what was before.
unfoldable pub ActionsStand : List ActRow → Past → Actions → Type 0
ActionsStand acts past a = StandsOn acts past.begins past.wakeups (outcomes_in acts past) a

-- Whether any cooldown runs behind what was before.
unfoldable pub is_cooling : List ActRow → Past → Bool
is_cooling acts past =
    list_any (λ place. nat_lt 0 (left_of (act_at acts place).cooldown past.wakeups (sendings place (outcomes_in acts past)))) (range_with_len 0 8)
