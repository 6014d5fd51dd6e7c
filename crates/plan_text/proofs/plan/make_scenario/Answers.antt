use Rattle.std.proofs.Common.{arith, ◌∙◌}
use Rattle.plan_text.proofs.PlanLemmas.{said_first, line_read, error_gives, lines_end, text_ends}
use Rattle.plan_text.proofs.plan.make_scenario.Goals as goal

pub lines-init : goal.lines-init
lines-init c = record { said = said_first c.args.commands.now c.args.text.now c.clear.new.self.items c.clear.ensures.items; room = omega arith }

pub lines-preserved : goal.lines-preserved
lines-preserved c = record {
  said = c.lines.invariant.said ∙ line_read c.args.commands.now c.lines.stage _ c.lines.number _ _ _ _ c.lines.out.items c.read_line.new.out.items c.in-Some.ensures.line c.in-Ok.ensures;
  room = omega (arith, c.in-Some.ensures.room, c.lines.invariant.room);
}

pub returns-in-Err : goal.returns-in-Err
returns-in-Err c =
    rw c.error_on.ensures
    (error_gives c.args.commands.now c.lines.stage c.lines.number _ _ _ _ c.lines.out.items c.read_line.new.out.items _ c.in-Err.error c.lines.invariant.said c.in-Some.ensures.line c.in-Err.ensures)

pub returns-in-Ok-finish : goal.returns-in-Ok-finish
returns-in-Ok-finish c = lines_end c.args.commands.now c.lines.stage c.lines.number _ c.lines.out.items _ _ c.lines.invariant.said c.in_default.ensures.line c.in-Ok-finish.ensures ∙ text_ends c.lines.out.items

pub returns-in-Err-finish : goal.returns-in-Err-finish
returns-in-Err-finish c = lines_end c.args.commands.now c.lines.stage c.lines.number _ c.lines.out.items _ _ c.lines.invariant.said c.in_default.ensures.line c.in-Err-finish.ensures
