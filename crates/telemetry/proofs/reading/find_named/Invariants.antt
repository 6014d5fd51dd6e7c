use Rattle.std.proofs.Common.{◌≡◌, drop}
use Rattle.telemetry.specs.Telemetry.{named}
use Rattle.telemetry.proofs.reading.find_named.Given as goal

abbrev pub invariant-loop-row : goal.invariant-loop-row
invariant-loop-row l = named l.rows l.name ≡ named (drop l.row-index l.rows) l.name
