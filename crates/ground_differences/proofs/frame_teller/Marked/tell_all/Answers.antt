use Rattle.ground_differences.proofs.WrittenLemmas.{written_more}
use Rattle.ground_differences.proofs.frame_teller.Marked.tell_all.Goals as goal

pub loop-line-preserved : goal.loop-line-preserved
loop-line-preserved g c = written_more _ _ _ c.loop-line.invariant c.in_ok-tell.ensures
