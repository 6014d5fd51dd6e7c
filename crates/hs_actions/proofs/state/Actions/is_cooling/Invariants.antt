use Rattle.std.proofs.Common.{◌≡◌, List, ◌||◌}
use Rattle.hs_tables.specs.declared.actions.ActRow.{ActRow}
use Rattle.hs_actions.specs.Outcomes.{Past}
use Rattle.hs_actions.specs.State.{ActionsStand, is_cooling}
use Rattle.hs_actions.proofs.Cooling.{behind}
use Rattle.hs_actions.proofs.state.Actions.is_cooling.Given as goal

-- a cooldown runs where one of those so far does, or one of the rest
abbrev pub invariant-loop-place : goal.invariant-loop-place
invariant-loop-place l = (acts : List ActRow) (past : Past) → ActionsStand acts past l.self → is_cooling acts past ≡ (l.any || behind acts past l.place)
