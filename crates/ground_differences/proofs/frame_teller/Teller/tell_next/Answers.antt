use Rattle.ground_differences.proofs.WrittenLemmas.{written_more}
use Rattle.ground_differences.proofs.frame_teller.Teller.tell_next.Goals as goal

pub returns-in_ok-common-in-Some-clause-written : goal.returns-in_ok-common-in-Some-clause-written
returns-in_ok-common-in-Some-clause-written g c = written_more _ _ _ c.in_ok-tell_come-in-Some.ensures.written c.in_ok-common-in-Some.ensures.written
