use Rattle.std.proofs.Common.{refl}
use Rattle.sc_tables.specs.Sequences.{relative_commands}
use Rattle.sc_tables.proofs.rts.Rts.of.Goals as goal

pub returns : goal.returns
unfolding relative_commands
returns c = refl
