use Rattle.timed_plans.proofs.PlanLemmas.{fault_given, text_given, check_given}
use Rattle.timed_plans.proofs.plan.schedule_plan.Goals as goal

pub returns-in-Err : goal.returns-in-Err
returns-in-Err c = fault_given c.args.commands.now c.args.text.now _ c.in-Err.ensures

pub returns-in-Ok-check_page : goal.returns-in-Ok-check_page
returns-in-Ok-check_page c = text_given c.args.commands.now c.args.text.now c.in-Ok.schedule c.in-Ok-write_page.page c.requires.commands c.in-Ok.ensures c.in-Ok-write_page.ensures c.in-Ok-check_page.ensures

pub returns : goal.returns
returns c = check_given c.args.commands.now c.args.text.now c.in-Ok.schedule c.in-Ok-write_page.page c.in-Err-check_page.error c.requires.commands c.in-Ok.ensures c.in-Ok-write_page.ensures c.in-Err-check_page.ensures
