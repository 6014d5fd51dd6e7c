use Rattle.cs_slices.proofs.Handling.{housekeeping_shown}
use Rattle.cs_slices.proofs.step.DutyCommandedReads.housekeeping.Goals as goal

pub returns-clause-packet : goal.returns-clause-packet
returns-clause-packet c = λ turn orders left belongs stood. housekeeping_shown _ _ c.args.self.now turn.input.time c.args.now c.args.counts c.housekeeping.result stood belongs.1 c.housekeeping.ensures.packet
