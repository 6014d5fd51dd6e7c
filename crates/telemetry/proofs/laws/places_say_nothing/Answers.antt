use Rattle.telemetry.proofs.PlaceLemmas.{placed_rows, placed_telemetry}
use Rattle.telemetry.proofs.laws.places_say_nothing.Goals as goal

pub returns-clause-said : goal.returns-clause-said
returns-clause-said c = placed_rows

pub returns-clause-shown : goal.returns-clause-shown
returns-clause-shown c = placed_telemetry
