use Rattle.crew_board.proofs.Machine.{claim_law_holds}
use Rattle.crew_board.proofs.laws.claim_law.Goals as goal

pub returns : goal.returns
returns c = claim_law_holds
