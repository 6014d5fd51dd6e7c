use Rattle.sc_tables.proofs.Grammars.{timed_refused, relative_refused}
use Rattle.sc_tables.proofs.laws.faults_stand_behind_commands.Goals as goal

pub returns : goal.returns
returns c = record { absolute = timed_refused; relative = relative_refused }
