use Rattle.timed_plans.proofs.HoldLemmas.{app_put}
use Rattle.timed_plans.proofs.scheduled.put_app.Goals as goal

pub returns : goal.returns
returns c = app_put c.args.name.now c.args.value c.args.out.now.items _ _ _ _ _ c.in_ok-extend_from_slice.ensures.items c.in_ok-extend_from_slice-2.ensures.items c.in_ok-push.ensures.items c.in_ok-push_decimal.ensures c.in_ok-push-2.ensures.items
