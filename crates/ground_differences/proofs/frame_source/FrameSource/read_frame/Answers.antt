use Rattle.std.proofs.Common.{arith}
use Rattle.ground_differences.proofs.FrameLemmas.{read_none, read_more, read_to_end, read_to_other, read_most, pushed}
use Rattle.ground_differences.proofs.frame_source.FrameSource.read_frame.Goals as goal

pub lines-init : goal.lines-init
lines-init g c = λ lines whole h. read_none g.L.Read.remaining _ c.args.frame lines whole c.clear.ensures.items h

pub lines-preserved : goal.lines-preserved
lines-preserved g c = λ lines whole h.
    read_more g.L.Read.remaining c.lines.self _ c.args.frame lines whole c.lines._count c.in-Some.line c.in-Some.is (omega arith)
    (pushed c.push.result c.map_err.result _ _ _ _ _ c.map_err.ensures.cases c.in_ok-map_err.was c.push.ensures.items)
    c.in_ok-self.ensures (c.lines.invariant lines whole h)

pub returns-in_default : goal.returns-in_default
returns-in_default g c = λ lines whole h. read_to_end g.L.Read.remaining _ c.args.frame lines whole c.lines._count (omega arith) c.in_default.is (c.lines.invariant lines whole h)

pub returns-then-line-frame : goal.returns-then-line-frame
returns-then-line-frame g c = λ lines whole h.
    read_to_other g.L.Read.remaining _ c.args.frame lines whole c.lines._count c.in-Some.line (omega arith) c.in-Some.is c.if-line-frame.true (c.lines.invariant lines whole h)

pub returns : goal.returns
returns g c = λ lines whole h. read_most g.L.Read.remaining _ c.args.frame lines whole c.lines._count (omega arith) (c.lines.invariant lines whole h)
