use Rattle.std.proofs.Common.{rules, arith}
use Rattle.std.proofs.lemmas.Grind.{common_steps}
use Rattle.md_dwell.specs.Lists.{delays}
use Rattle.md_dwell.proofs.tables.delays.Goals as goal

pub loop-entry-init : goal.loop-entry-init
unfolding delays
loop-entry-init c = record { sum = search rules; fits = omega arith }

pub loop-entry-preserved : goal.loop-entry-preserved
unfolding delays
loop-entry-preserved c = record { sum = grind (arith, common_steps); fits = omega arith }

pub returns : goal.returns
unfolding delays
returns c = grind (arith, common_steps)
