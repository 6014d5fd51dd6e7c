use Rattle.plan_text.proofs.ItemLemmas.{items_keep}
use Rattle.plan_text.proofs.laws.items_keep_their_frames.Goals as goal

pub returns : goal.returns
returns c = items_keep
