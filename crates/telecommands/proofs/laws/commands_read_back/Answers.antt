use Rattle.telecommands.proofs.ReadBackLemmas.{command_back}
use Rattle.telecommands.proofs.laws.commands_read_back.Goals as goal

pub returns : goal.returns
returns c = command_back
