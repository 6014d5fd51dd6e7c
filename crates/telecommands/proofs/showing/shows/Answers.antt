use Rattle.telecommands.proofs.CommandLemmas.{good_is, payload_room}
use Rattle.telecommands.proofs.showing.shows.Goals as goal

pub command-requires-clause-version : goal.command-requires-clause-version
command-requires-clause-version c = (good_is _ c.requires).version

pub command-requires-clause-kind : goal.command-requires-clause-kind
command-requires-clause-kind c = (good_is _ c.requires).kind

pub command-requires-clause-code : goal.command-requires-clause-code
command-requires-clause-code c = (good_is _ c.requires).code

pub command-requires-clause-size : goal.command-requires-clause-size
command-requires-clause-size c = rw c.payload-payload.ensures (payload_room c.args.packet.now (rw (← c.bytes-bytes.ensures.value) c.bytes-bytes.ensures.short))
