use Rattle.std.proofs.Common.{refl, ◌∙◌}
use Rattle.md_dwell.proofs.Turns.{housekeeping_shown}
use Rattle.md_dwell.proofs.step.DutyCommandedReads.housekeeping.Goals as goal

pub returns-clause-packet : goal.returns-clause-packet
returns-clause-packet c = λ turn orders left belongs stood.
    housekeeping_shown turn.setup turn.history orders turn.input.time c.args.now c.args.counts c.args.self.now c.bits_of-enabled.result c.housekeeping.result stood belongs.1
    (c.bits_of-enabled.ensures.bits ∙ rw (c.enabled.ensures, c.enabled-2.ensures, c.enabled-3.ensures, c.enabled-4.ensures) refl) c.housekeeping.ensures.packet
