use Rattle.std.proofs.Common.{◌∙◌, arith, ap}
use Rattle.std.specs.Prelude.{Result}
use Rattle.plan_text.specs.declared.fault.PlanFault.{PlanFault}
use Rattle.timed_plans.specs.Schedules.{Schedule, held_in}
use Rattle.timed_plans.specs.Drafts.{shown_of, behind}
use Rattle.timed_plans.proofs.DraftLemmas.{said_first, draft_read, draft_fault, draft_end}
use Rattle.timed_plans.proofs.plan.read_plan.Goals as goal

pub lines-init : goal.lines-init
lines-init c = record { said = said_first c.args.commands.now c.args.text.now _ _ (ap held_in c.new.ensures.items) (ap held_in c.new-2.ensures.items); room = omega arith }

pub lines-preserved : goal.lines-preserved
lines-preserved c = record {
  said = draft_read c.args.commands.now c.lines.number _ _ _ _ c.lines.draft c.read_line.new.draft _ _ c.lines.invariant.said c.in-Some.ensures.line c.in-Ok.ensures;
  room = omega (arith, c.in-Some.ensures.room, c.lines.invariant.room);
}

pub returns-in-Err : goal.returns-in-Err
returns-in-Err c =
    rw c.error_on.ensures
    (draft_fault c.args.commands.now c.lines.number _ _ _ _ c.lines.draft c.read_line.new.draft _ c.in-Err.error c.lines.invariant.said c.in-Some.ensures.line c.in-Err.ensures)

pub returns-in-Ok-finish : goal.returns-in-Ok-finish
returns-in-Ok-finish c = draft_end c.args.commands.now c.lines.number _ c.lines.draft _ c.lines.invariant.said c.in_default.ensures.line ∙ c.in-Ok-finish.ensures

pub returns-in-Err-finish : goal.returns-in-Err-finish
returns-in-Err-finish c =
    draft_end c.args.commands.now c.lines.number _ c.lines.draft _ c.lines.invariant.said c.in_default.ensures.line
    ∙ ap (λ (r : Result Schedule PlanFault). behind c.lines.draft (shown_of r)) c.in-Err-finish.ensures
