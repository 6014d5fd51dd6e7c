use Rattle.telemetry.proofs.TelemetryLemmas.{good_is}
use Rattle.telemetry.proofs.showing.shows.Goals as goal

pub packet_of-requires-clause-version : goal.packet_of-requires-clause-version
packet_of-requires-clause-version c = (good_is _ c.requires.good).version
