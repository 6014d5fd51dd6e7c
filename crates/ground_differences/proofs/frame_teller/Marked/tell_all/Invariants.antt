use Rattle.ground_differences.specs.Written.{IsWrittenOn}
use Rattle.ground_differences.proofs.frame_teller.Marked.tell_all.Given as goal

abbrev pub invariant-loop-line : goal.invariant-loop-line
invariant-loop-line g l = IsWrittenOn (g.W.Write.contents l.fn.out) (g.W.Write.contents l.out)
