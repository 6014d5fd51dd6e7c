use Rattle.ground_checks.proofs.LoadingLemmas.{header_reads}
use Rattle.ground_checks.proofs.laws.maps_are_headers.Goals as goal

pub returns : goal.returns
returns c = λ text regions files is. header_reads text regions files is
