use Rattle.hs_actions.specs.Outcomes.{act_at}
use Rattle.hs_monitors.proofs.Rising.{counts_from_last}
use Rattle.hs_monitors.proofs.laws.cooldown_counts_from_the_last_sending.Goals as goal

pub returns : goal.returns
returns c = λ setup history place. counts_from_last setup place (act_at setup.tables.acts place).cooldown history
