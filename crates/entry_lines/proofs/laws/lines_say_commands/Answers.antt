use Rattle.entry_lines.proofs.CommandLemmas.{commands_say}
use Rattle.entry_lines.proofs.laws.lines_say_commands.Goals as goal

pub returns : goal.returns
returns c = λ epoch cs fs n place lines bytes line said found. commands_say epoch cs fs line lines place n bytes said found
