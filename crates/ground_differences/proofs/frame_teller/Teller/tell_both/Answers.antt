use Rattle.std.proofs.Common.{ap}
use Rattle.std.proofs.lemmas.Bool.{false≢true}
use Rattle.ground_differences.proofs.WrittenLemmas.{written_more}
use Rattle.ground_differences.proofs.ComparedLemmas.{none_differs}
use Rattle.ground_differences.proofs.frame_teller.Teller.tell_both.Goals as goal

pub returns-clause-written : goal.returns-clause-written
returns-clause-written g c = written_more _ _ _ c.in_ok-begin.ensures.written c.in_ok-tell_frame.ensures.written

pub returns-clause-found : goal.returns-clause-found
returns-clause-found g c =
    none_differs c.args.self.now.found.first _ _ _ _ c.in_ok-begin.ensures.found c.in_ok-tell_frame.ensures.first
    (ap (λ found. found.first) c.end_frame.ensures)
    (λ same. false≢true (c.if-is_same_frame.ensures.1 same))
