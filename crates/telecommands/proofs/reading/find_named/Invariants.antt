use Rattle.std.proofs.Common.{◌≡◌, drop}
use Rattle.telecommands.specs.Commands.{named}
use Rattle.telecommands.proofs.reading.find_named.Given as goal

abbrev pub invariant-loop-command : goal.invariant-loop-command
invariant-loop-command l = named l.commands l.name ≡ named (drop l.command-index l.commands) l.name
