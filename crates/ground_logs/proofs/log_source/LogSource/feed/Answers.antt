use Rattle.std.proofs.Common.{drop, refl, ap, ◌∙◌, arith}
use Rattle.ground_logs.proofs.ComingLemmas.{says_fed, says_more, says_line, says_fault}
use Rattle.ground_logs.proofs.log_source.LogSource.feed.Goals as goal

pub returns-in-More : goal.returns-in-More
returns-in-More g c = λ goes_on said s.
    says_more g.L.Read.remaining _ said c.feed-fed.result.answer c.in-More.is
    (says_fed g.L.Read.remaining c.args.self.now _ c.behind-rest.result.now c.feed-fed.result.taken c.feed-fed.result.answer said refl refl refl refl c.saturating_add-self.ensures
    (c.behind-rest.ensures ∙ ap (drop c.args.self.now.at) c.front.ensures) c.feed-fed.ensures.taken (omega arith) (omega arith) c.feed-fed.ensures.stands goes_on s)

pub returns-in-Line : goal.returns-in-Line
returns-in-Line g c = λ goes_on said s.
    says_line g.L.Read.remaining _ said c.feed-fed.result.answer c.in-Line.is
    (says_fed g.L.Read.remaining c.args.self.now _ c.behind-rest.result.now c.feed-fed.result.taken c.feed-fed.result.answer said refl refl refl refl c.saturating_add-self.ensures
    (c.behind-rest.ensures ∙ ap (drop c.args.self.now.at) c.front.ensures) c.feed-fed.ensures.taken (omega arith) (omega arith) c.feed-fed.ensures.stands goes_on s)

pub returns-in-Fault : goal.returns-in-Fault
returns-in-Fault g c = λ goes_on said s.
    says_fault g.L.Read.remaining _ said c.feed-fed.result.answer c.in-Fault.fault c.in-Fault.is
    (says_fed g.L.Read.remaining c.args.self.now _ c.behind-rest.result.now c.feed-fed.result.taken c.feed-fed.result.answer said refl refl refl refl c.saturating_add-self.ensures
    (c.behind-rest.ensures ∙ ap (drop c.args.self.now.at) c.front.ensures) c.feed-fed.ensures.taken (omega arith) (omega arith) c.feed-fed.ensures.stands goes_on s)
