use Rattle.plan_text.proofs.PlanLemmas.{line_put}
use Rattle.plan_text.proofs.line.pass.Goals as goal

pub returns-in-Ok : goal.returns-in-Ok
returns-in-Ok c = line_put _ _ c.args.out.now.items _ (c.in-Ok.ensures)
