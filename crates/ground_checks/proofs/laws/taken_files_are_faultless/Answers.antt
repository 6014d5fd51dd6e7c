use Rattle.ground_checks.proofs.CheckedLemmas.{taken_faultless}
use Rattle.ground_checks.proofs.laws.taken_files_are_faultless.Goals as goal

pub returns : goal.returns
returns c = taken_faultless
