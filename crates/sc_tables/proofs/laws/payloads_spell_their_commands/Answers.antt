use Rattle.sc_tables.proofs.Grammars.{timed_accepted, relative_accepted}
use Rattle.sc_tables.proofs.laws.payloads_spell_their_commands.Goals as goal

pub returns : goal.returns
returns c = record { absolute = timed_accepted; relative = relative_accepted }
