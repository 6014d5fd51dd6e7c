use Rattle.scenario.proofs.LaneLemmas.{capped_is}
use Rattle.scenario.proofs.digit_lanes.capped_sum.Goals as goal

pub returns : goal.returns
returns c = capped_is c.args.a c.args.b c.fits-a.1 c.fits-b.1
