use Rattle.crew_board.proofs.Reaching.{board_law_holds}
use Rattle.crew_board.proofs.laws.board_law.Goals as goal

pub returns : goal.returns
returns c = board_law_holds
