use Rattle.std.proofs.Common.{refl}
use Rattle.ground_logs.proofs.ComingLemmas.{passes_over, gives_first, gives_none}
use Rattle.ground_logs.proofs.good_lines.GoodLines.next.Goals as goal

pub lines-preserved : goal.lines-preserved
lines-preserved g c = λ lines whole s.
    passes_over g.L.Read.remaining _ _ lines whole c.in-Fault.fault refl (λ said t. rw c.in-Fault.is at (c.in-Ok.ensures said t)) (c.lines.invariant lines whole s)

pub returns-in-Line : goal.returns-in-Line
returns-in-Line g c = λ lines whole s.
    gives_first g.L.Read.remaining _ _ lines whole c.in-Line.line refl (λ said t. rw c.in-Line.is at (c.in-Ok.ensures said t)) (c.lines.invariant lines whole s)

pub returns-in-End : goal.returns-in-End
returns-in-End g c = λ lines whole s.
    gives_none g.L.Read.remaining _ _ lines whole refl (λ said t. rw c.in-End.is at (c.in-Ok.ensures said t)) (c.lines.invariant lines whole s)
