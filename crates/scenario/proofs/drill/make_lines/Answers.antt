use Rattle.std.proofs.Common.{◌∙◌, arith}
use Rattle.scenario.proofs.DrillLemmas.{last_made, next_made}
use Rattle.scenario.proofs.drill.make_lines.Goals as goal

pub returns-then-left-eq0-clause-text : goal.returns-then-left-eq0-clause-text
returns-then-left-eq0-clause-text c =
    last_made c.args.left.now.frames _ c.args.left.now.x c.make_frame-left.result c.append.new.self (omega arith) c.if-left-eq0.true
    (c.append.ensures ∙ cc (c.make_frame-left.ensures.lines, c.as_bytes.ensures.value))

pub returns-else-left-eq0-clause-text : goal.returns-else-left-eq0-clause-text
returns-else-left-eq0-clause-text c =
    rw c.make_frame-left.ensures.next (next_made c.args.left.now.frames _ c.args.left.now.x c.make_frame-left.new.lines (omega arith) (omega arith) c.make_frame-left.ensures.lines)
