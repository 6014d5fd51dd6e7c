use Rattle.std.proofs.Common.{◌≡◌, drop}
use Rattle.telecommands.specs.Commands.{showing}
use Rattle.telecommands.proofs.showing.find_showing.Given as goal

abbrev pub invariant-loop-command : goal.invariant-loop-command
invariant-loop-command l = showing l.commands l.packet ≡ showing (drop l.command-index l.commands) l.packet
