use Rattle.std.proofs.Common.{◌≡◌}
use Rattle.ground_differences.specs.Written.{IsWrittenOn}
use Rattle.ground_differences.proofs.frame_teller.Teller.tell_woven.Given as goal

abbrev pub invariant-loop-one : goal.invariant-loop-one
invariant-loop-one g l = record {
  written : IsWrittenOn (g.W.Write.contents l.fn.out) (g.W.Write.contents l.out);
  first : l.self.found.first ≡ l.fn.self.found.first;
}
