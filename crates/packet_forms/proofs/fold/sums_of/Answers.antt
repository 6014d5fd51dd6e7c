use Rattle.packet_forms.proofs.Folding.{sums_zero}
use Rattle.packet_forms.proofs.fold.sums_of.Goals as goal

pub returns-clause-zeros : goal.returns-clause-zeros
returns-clause-zeros c k some = sums_zero c.args.start k some
