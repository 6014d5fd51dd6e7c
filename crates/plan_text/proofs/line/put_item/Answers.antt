use Rattle.std.proofs.Common.{sym}
use Rattle.plan_text.proofs.PlanLemmas.{item_put}
use Rattle.plan_text.proofs.line.put_item.Goals as goal

pub returns-in-Ok-put_sent : goal.returns-in-Ok-put_sent
returns-in-Ok-put_sent c = item_put c.args.course.now c.in-Ok.more _ c.args.out.now.items _ (sym c.in-Ok.ensures) c.in-Ok-put_sent.ensures
