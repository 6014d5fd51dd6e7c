use Rattle.std.proofs.Common.{List, Bool}
use Rattle.log_lines.specs.declared.line.LogLine.{LogLine}
use Rattle.ground_logs.specs.Coming.{HasLines}
use Rattle.ground_logs.proofs.good_lines.GoodLines.next.Given as goal

abbrev pub invariant-lines : goal.invariant-lines
invariant-lines g l = (lines : List LogLine) (whole : Bool) → HasLines g.L.Read.remaining l.fn.self lines whole → HasLines g.L.Read.remaining l.self lines whole
