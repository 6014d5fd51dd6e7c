use Rattle.std.proofs.Common.{◌≡◌, drop}
use Rattle.telemetry.specs.Telemetry.{showing}
use Rattle.telemetry.proofs.showing.find_showing.Given as goal

abbrev pub invariant-loop-row : goal.invariant-loop-row
invariant-loop-row l = showing l.rows l.packet ≡ showing (drop l.row-index l.rows) l.packet
