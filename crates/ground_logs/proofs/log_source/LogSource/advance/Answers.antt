use Rattle.std.proofs.Common.{◌∙◌}
use Rattle.ground_logs.proofs.ComingLemmas.{says_end_again}
use Rattle.ground_logs.proofs.log_source.LogSource.advance.Goals as goal

pub returns-then-self : goal.returns-then-self
returns-then-self g c = λ said s. says_end_again g.L.Read.remaining _ said c.if-self.true s

pub returns-then-self-eq0 : goal.returns-then-self-eq0
returns-then-self-eq0 g c = λ said s.
    c.end.ensures (c.in_ok-fill.ensures.ended ∙ c.if-self.false) c.if-self-eq0.true (c.in_ok-fill.ensures.end c.if-self-eq0.true) said (c.in_ok-fill.ensures.left said s)

pub returns : goal.returns
returns g c = λ said s. c.feed.ensures (c.in_ok-fill.ensures.ended ∙ c.if-self.false) said (c.in_ok-fill.ensures.left said s)
