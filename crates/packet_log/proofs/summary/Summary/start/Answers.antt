use Rattle.std.proofs.Common.{ap, sym, ◌∙◌}
use Rattle.fsw_outside.specs.Tally.{tally_of}
use Rattle.fsw_outside.specs.TallyLaws.{tally_none}
use Rattle.packet_log.proofs.summary.Summary.start.Goals as goal

pub invariant_of-result : goal.invariant_of-result
invariant_of-result c = record { kept = sym tally_none ∙ ap tally_of (sym c.nothing.ensures) }
