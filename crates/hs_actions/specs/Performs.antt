-- What a call does to the actions and to the items, by what happens in it.
use Rattle.std.specs.Prelude.{◌≡◌, ℕ, ◌+◌, List}
use Rattle.bus_pipes.specs.Held.{Held, adding}
use Rattle.bus_pipes.specs.declared.names.Out.{Out}
use Rattle.hs_tables.specs.declared.actions.ActRow.{ActRow}
use Rattle.hs_actions.specs.Happenings.{Happening}
use Rattle.hs_actions.specs.Outcomes.{Past, with_more}
use Rattle.hs_actions.specs.Answers.{items_of}
use Rattle.hs_actions.specs.State.{ActionsStand}
use Rattle.hs_actions.specs.declared.state.Actions.{Actions}

-- The new state stands for what happened in wakeup k too, and what that gives was put behind the items before.
pub record Performs (acts : List ActRow) (time : ℕ) (happened : ℕ → List Happening) (old new : Actions) (before after : Held Out) : Type 0 where
  pub stands : (past : Past) (k : ℕ) → k + 1 ≡ past.wakeups → ActionsStand acts past old → ActionsStand acts (with_more past (happened k)) new
  pub items : (past : Past) (k : ℕ) → k + 1 ≡ past.wakeups → ActionsStand acts past old → after ≡ adding before (items_of time acts past (happened k))
