use Rattle.std.proofs.Common.{sym, ◌∙◌, arith}
use Rattle.entry_lines.proofs.FoundLemmas.{saying_none, saying_here, saying_later}
use Rattle.entry_lines.proofs.finding.find_line.Goals as goal

pub returns-then-says : goal.returns-then-says
returns-then-says c = sym (c.lines.invariant.said ∙ saying_here c.args.sought _ _ _ c.in-Some.ensures.line (sym c.says.ensures ∙ c.if-says.true))

pub lines-preserved : goal.lines-preserved
lines-preserved c = record {
  said = c.lines.invariant.said ∙ saying_later c.args.sought _ _ _ c.in-Some.ensures.line (sym c.says.ensures ∙ c.if-says.false);
  room = omega (arith, c.in-Some.ensures.room, c.lines.invariant.room);
}

pub returns : goal.returns
returns c = sym (c.lines.invariant.said ∙ saying_none c.args.sought _ c.in_default.ensures.line)
