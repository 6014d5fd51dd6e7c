use Rattle.std.proofs.lemmas.Simd.{length-chunk, get_or-chunk}
use Rattle.packet_forms.proofs.fold.sums_at.Goals as goal

pub returns-clause-each : goal.returns-clause-each
returns-clause-each c k low = get_or-chunk c.args.from 8 c.args.sums.now k 0 low

pub returns-clause-lanes : goal.returns-clause-lanes
returns-clause-lanes c = length-chunk c.args.from 8 c.args.sums.now c.requires
