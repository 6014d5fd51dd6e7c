use Rattle.lc_watch.specs.Histories.{telemetry_of}
use Rattle.lc_watch.proofs.Stepping.{housekeeping_shown}
use Rattle.lc_watch.proofs.step.DutyCommandedReads.housekeeping.Goals as goal

pub returns-clause-packet : goal.returns-clause-packet
returns-clause-packet c = λ turn orders left belongs stood.
    housekeeping_shown turn.setup turn.history turn.input c.args.counts orders c.args.now c.active_bits.result c.args.self.now.fired c.results.result c.housekeeping.result belongs.1
    (c.active_bits.ensures turn.setup turn.history orders stood) stood.fired (c.results.ensures turn.setup.watch (telemetry_of turn.history) stood.outcomes) c.housekeeping.ensures.packet
