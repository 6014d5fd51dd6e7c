use Rattle.telecommands.proofs.PlaceLemmas.{placed_commands}
use Rattle.telecommands.proofs.laws.places_say_nothing.Goals as goal

pub returns : goal.returns
returns c = placed_commands
