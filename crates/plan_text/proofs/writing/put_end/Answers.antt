use Rattle.plan_text.proofs.WritingLemmas.{end_put}
use Rattle.plan_text.proofs.writing.put_end.Goals as goal

pub returns : goal.returns
returns c = end_put c.args.count c.args.out.now.items _ _ c.in_ok-put_ticks.ensures c.in_ok-extend_from_slice.ensures.items
