use Rattle.ground_differences.specs.Written.{IsWrittenOn}
use Rattle.ground_differences.specs.Compared.{ComparesOn}
use Rattle.ground_differences.proofs.comparing.tell_frames.Given as goal

abbrev pub invariant-frames : goal.invariant-frames
invariant-frames g l = record {
  written : IsWrittenOn (g.W.Write.contents l.fn.out) (g.W.Write.contents l.out);
  found : ComparesOn g.L.Read.remaining l.fn.ones l.fn.others l.fn.teller.found.first l.ones l.others l.teller.found.first;
}
