use Rattle.subjects.proofs.Leaving.{leave_for_good}
use Rattle.subjects.proofs.laws.subjects_leave_for_good.Goals as goal

pub returns : goal.returns
returns c = leave_for_good
