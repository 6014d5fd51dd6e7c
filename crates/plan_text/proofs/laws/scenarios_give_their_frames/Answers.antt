use Rattle.plan_text.proofs.FrameLemmas.{plan_given}
use Rattle.plan_text.proofs.laws.scenarios_give_their_frames.Goals as goal

pub returns : goal.returns
returns c = plan_given
