use Rattle.std.proofs.Common.{refl, rules}
use Rattle.ground_logs.proofs.ComingLemmas.{to_say_read}
use Rattle.ground_logs.proofs.log_source.LogSource.fill.Goals as goal

pub returns-clause-left : goal.returns-clause-left
returns-clause-left g c = λ said s. to_say_read g.L.Read.remaining _ _ said c.if-self.false c.in_ok-self.ensures.bytes.0 refl refl refl s

pub returns-clause-end : goal.returns-clause-end
returns-clause-end g c = λ none. c.in_ok-self.ensures.bytes.1 none (search rules)
