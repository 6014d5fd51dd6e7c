use Rattle.std.proofs.Common.{refl}
use Rattle.sc_sequences.specs.Histories.{at_start}
use Rattle.sc_sequences.proofs.duty.Duty.start.Goals as goal

pub returns : goal.returns
unfolding at_start
returns c = record { cursors = c.begin.ensures; sent = refl; wrong = refl }
