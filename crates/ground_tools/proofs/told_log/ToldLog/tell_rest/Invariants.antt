use Rattle.std.proofs.Common.{◌≡◌}
use Rattle.ground_tools.proofs.told_log.ToldLog.tell_rest.Given as goal

abbrev pub invariant-loop-frame : goal.invariant-loop-frame
invariant-loop-frame g l = record { log : l.self.log ≡ l.fn.self.log; refusals : l.self.refusals ≡ l.fn.self.refusals }
