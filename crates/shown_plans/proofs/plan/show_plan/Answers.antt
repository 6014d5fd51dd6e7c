use Rattle.shown_plans.proofs.PlainLemmas.{plan_is}
use Rattle.shown_plans.proofs.plan.show_plan.Goals as goal

pub returns-in-Ok-read_to_end-clause-frames : goal.returns-in-Ok-read_to_end-clause-frames
returns-in-Ok-read_to_end-clause-frames c = plan_is c.args.commands.now c.args.text.now c.show_good.result c.in-Ok-read_to_end.ensures c.show_good.ensures
