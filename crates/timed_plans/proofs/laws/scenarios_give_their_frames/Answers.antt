use Rattle.timed_plans.proofs.FrameLemmas.{made_ends, made_given}
use Rattle.timed_plans.proofs.laws.scenarios_give_their_frames.Goals as goal

pub returns-clause-ends : goal.returns-clause-ends
returns-clause-ends c = made_ends

pub returns-clause-items : goal.returns-clause-items
returns-clause-items c = made_given
