use Rattle.std.proofs.Common.{refl}
use Rattle.sc_tables.specs.Sequences.{timed_commands}
use Rattle.sc_tables.proofs.ats.Ats.of.Goals as goal

pub returns : goal.returns
unfolding timed_commands
returns c = refl
