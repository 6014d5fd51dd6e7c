use Rattle.std.proofs.Common.{◌∙◌}
use Rattle.hs_actions.specs.State.{ActionsStand}
use Rattle.hs_monitors.specs.Step.{resets_made, resets_maximum}
use Rattle.hs_monitors.specs.State.{Stands}
use Rattle.hs_monitors.proofs.state.Hs.resets.Goals as goal

pub returns-clause-made : goal.returns-clause-made
unfolding Stands resets_made ActionsStand
returns-clause-made c = λ setup history stood. c.resets.ensures.made ∙ stood.duty.actions.made

pub returns-clause-max : goal.returns-clause-max
unfolding Stands resets_maximum ActionsStand
returns-clause-max c = λ setup history stood. c.resets.ensures.max ∙ stood.duty.actions.max
