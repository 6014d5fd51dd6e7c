use Rattle.timed_plans.proofs.HoldLemmas.{spread_none, spread_next}
use Rattle.timed_plans.specs.Schedules.{held_in}
use Rattle.timed_plans.proofs.scheduled.add_spread.Goals as goal

pub loop-later-init : goal.loop-later-init
loop-later-init c = λ line same. spread_none c.args.heading.now c.args.number line (held_in c.args.lines.now.items)

pub loop-later-preserved : goal.loop-later-preserved
loop-later-preserved c = λ line same. spread_next c.loop-later.later c.args.heading.now c.args.number line c.args.text.now _ _ _ same (c.loop-later.invariant line same) c.in_ok-add_each.ensures
