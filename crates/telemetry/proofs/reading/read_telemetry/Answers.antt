use Rattle.std.proofs.Common.{Some}
use Rattle.telemetry.proofs.TelemetryLemmas.{missing_gives, packet_gives, named_gives, unnamed_said}
use Rattle.telemetry.proofs.reading.read_telemetry.Goals as goal

pub returns-in_default : goal.returns-in_default
returns-in_default c = missing_gives _ _ _ _ _ c.in_default.ensures.words c.row_error.ensures

pub returns-in-Some-behind_key : goal.returns-in-Some-behind_key
returns-in-Some-behind_key c = packet_gives c.read_packet.result c.args.epoch c.args.word c.args.rows.now _ _ _ _ c.in-Some.ensures.words c.in-Some-behind_key.ensures c.read_packet.ensures

pub returns-in-Some-find_named : goal.returns-in-Some-find_named
returns-in-Some-find_named c = named_gives c.read_content.result c.args.epoch c.args.word c.args.rows.now _ _ _ (Some c.in-Some-find_named.row) c.in-Some.ensures.words c.in-None.ensures c.in-Some-find_named.ensures.value c.read_content.ensures

pub returns-in-None-find_named : goal.returns-in-None-find_named
returns-in-None-find_named c = unnamed_said c.args.epoch c.args.word c.args.rows.now _ _ _ c.in-Some.ensures.words c.in-None.ensures c.in-None-find_named.ensures.value
