use Rattle.telemetry.proofs.ReadBackLemmas.{telemetry_back}
use Rattle.telemetry.proofs.laws.telemetry_reads_back.Goals as goal

pub returns : goal.returns
returns c = telemetry_back
