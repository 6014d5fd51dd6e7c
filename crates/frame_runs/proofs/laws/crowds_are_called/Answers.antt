use Rattle.frame_runs.proofs.Calling.{crowd_called, called_later}
use Rattle.frame_runs.proofs.laws.crowds_are_called.Goals as goal

pub returns-clause-frame : goal.returns-clause-frame
returns-clause-frame c = crowd_called

pub returns-clause-later : goal.returns-clause-later
returns-clause-later c = called_later
