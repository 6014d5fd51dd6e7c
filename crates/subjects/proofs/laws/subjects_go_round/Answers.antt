use Rattle.subjects.proofs.Rounds.{goes_round}
use Rattle.subjects.proofs.laws.subjects_go_round.Goals as goal

pub returns : goal.returns
returns c = goes_round
