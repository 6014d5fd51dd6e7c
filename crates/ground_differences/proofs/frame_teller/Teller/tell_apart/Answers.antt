use Rattle.std.proofs.Common.{◌∙◌}
use Rattle.ground_differences.proofs.WrittenLemmas.{written_more}
use Rattle.ground_differences.proofs.frame_teller.Teller.tell_apart.Goals as goal

pub loop-one-preserved : goal.loop-one-preserved
loop-one-preserved g c = record {
  written = written_more _ _ _ c.loop-one.invariant.written c.in_ok-tell_gone.ensures.written;
  first = c.in_ok-tell_gone.ensures.first ∙ c.loop-one.invariant.first;
}
