use Rattle.std.proofs.Common.{arith}
use Rattle.shown_plans.proofs.ShownLemmas.{plain_more, plain_all}
use Rattle.shown_plans.proofs.plain.put_lines.Goals as goal

pub lines-preserved : goal.lines-preserved
lines-preserved c = record {
  plain = plain_more _ _ _ _ c.lines.out.items c.put_plain.new.out.items _ c.lines.invariant.plain c.in-Some.ensures.line c.in_ok-put_plain.ensures;
  room = omega (arith, c.in-Some.ensures.room, c.lines.invariant.room);
}

pub returns : goal.returns
returns c = plain_all _ c.lines.out.items _ c.lines.invariant.plain c.in_default.ensures.line
