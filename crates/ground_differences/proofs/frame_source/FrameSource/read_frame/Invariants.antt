use Rattle.std.proofs.Common.{List, Bool}
use Rattle.log_lines.specs.declared.line.LogLine.{LogLine}
use Rattle.ground_differences.specs.Frames.{HasLeft}
use Rattle.ground_differences.proofs.FrameLemmas.{ReadSoFar}
use Rattle.ground_differences.proofs.frame_source.FrameSource.read_frame.Given as goal

abbrev pub invariant-lines : goal.invariant-lines
invariant-lines g l = (lines : List LogLine) (whole : Bool) → HasLeft g.L.Read.remaining l.fn.self lines whole
    → ReadSoFar g.L.Read.remaining l.self l.frame lines whole l._count
