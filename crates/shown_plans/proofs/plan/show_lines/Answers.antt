use Rattle.std.proofs.Common.{arith}
use Rattle.shown_plans.proofs.ShownLemmas.{shown_start, shown_more, shown_all}
use Rattle.shown_plans.proofs.plan.show_lines.Goals as goal

pub lines-init : goal.lines-init
lines-init c = record { shown = shown_start c.args.commands.now c.args.text.now c.args.out.now.items; room = omega arith; few = omega arith }

pub lines-preserved : goal.lines-preserved
lines-preserved c = record {
  shown = shown_more c.args.commands.now c.lines.ended.told c.lines.ended.come _ _ _ _ _ _ c.lines.out.items c.show_line.new.out.items _ c.lines.invariant.shown c.in-Some.ensures.line c.in_ok-ended.ensures.shown;
  room = omega (arith, c.in-Some.ensures.room, c.lines.invariant.room);
  few = omega (arith, c.in-Some.ensures.shorter, c.in_ok-ended.ensures.few, c.lines.invariant.few);
}

pub returns : goal.returns
returns c = shown_all c.args.commands.now c.lines.ended.told c.lines.ended.come _ c.lines.out.items _ c.lines.invariant.shown c.in_default.ensures.line
