use Rattle.ground_runs.proofs.SilentLemmas.{hushed_with}
use Rattle.ground_runs.proofs.rehearsing.rehearse_on.Goals as goal

pub returns : goal.returns
returns c c' = hushed_with _ _ _ _ _ _ _ c'.in_ok-subjects.ensures.subjects c'.vigil_with.ensures
