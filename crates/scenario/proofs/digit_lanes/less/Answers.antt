use Rattle.scenario.proofs.LaneLemmas.{less_is}
use Rattle.scenario.proofs.digit_lanes.less.Goals as goal

pub returns : goal.returns
returns c = less_is c.args.a c.args.b c.fits-a.1 c.fits-b.1
