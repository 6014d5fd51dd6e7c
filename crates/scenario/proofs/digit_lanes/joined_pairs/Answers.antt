use Rattle.scenario.proofs.LaneLemmas.{bytes_are}
use Rattle.scenario.proofs.digit_lanes.joined_pairs.Goals as goal

pub returns-clause-value : goal.returns-clause-value
returns-clause-value c = bytes_are c.args.values c.fits-values.0 c.requires
