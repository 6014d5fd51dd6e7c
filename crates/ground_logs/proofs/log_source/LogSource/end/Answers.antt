use Rattle.std.proofs.Common.{refl}
use Rattle.ground_logs.proofs.ComingLemmas.{says_last, says_end}
use Rattle.ground_logs.proofs.log_source.LogSource.end.Goals as goal

pub returns-in-Some : goal.returns-in-Some
returns-in-Some g c = λ goes_on empty at_end said s.
    says_last g.L.Read.remaining _ _ said c.finish.result c.in-Some.fault c.in-Some.is refl refl refl goes_on empty at_end c.finish.ensures s

pub returns-in-None : goal.returns-in-None
returns-in-None g c = λ goes_on empty at_end said s.
    says_end g.L.Read.remaining _ _ said c.finish.result c.in-None.is refl refl refl goes_on empty at_end c.finish.ensures s
