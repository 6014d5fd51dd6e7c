use Rattle.std.proofs.Common.{List}
use Rattle.log_lines.specs.Logs.{Said}
use Rattle.ground_logs.specs.Coming.{IsToSay}
use Rattle.ground_logs.proofs.log_source.LogSource.next.Given as goal

abbrev pub invariant-pieces : goal.invariant-pieces
invariant-pieces g l = (said : List Said) → IsToSay g.L.Read.remaining l.fn.self said → IsToSay g.L.Read.remaining l.self said
