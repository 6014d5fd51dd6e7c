use Rattle.std.proofs.Common.{arith}
use Rattle.telecommands.proofs.CommandLemmas.{good_is}
use Rattle.telecommands.proofs.reading.read_payload.Goals as goal

pub read_row-requires : goal.read_row-requires
read_row-requires c = let good = good_is _ c.requires.good in omega (arith, good.few, c.requires.word)

pub command-requires-clause-version : goal.command-requires-clause-version
command-requires-clause-version c = (good_is _ c.requires.good).version

pub command-requires-clause-kind : goal.command-requires-clause-kind
command-requires-clause-kind c = (good_is _ c.requires.good).kind

pub command-requires-clause-code : goal.command-requires-clause-code
command-requires-clause-code c = (good_is _ c.requires.good).code
