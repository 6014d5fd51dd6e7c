use Rattle.scenario.proofs.LaneLemmas.{smaller_is}
use Rattle.scenario.proofs.digit_lanes.smaller.Goals as goal

pub returns : goal.returns
returns c = smaller_is c.args.a c.args.b
