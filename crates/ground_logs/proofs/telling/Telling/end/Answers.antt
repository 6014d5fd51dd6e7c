use Rattle.std.proofs.Common.{sym, ◌∙◌}
use Rattle.ground_logs.proofs.MakingLemmas.{cut_is_none, whole_is_log}
use Rattle.ground_logs.proofs.telling.Telling.end.Goals as goal

pub returns-in_ok-tell_rest-in-Some : goal.returns-in_ok-tell_rest-in-Some
returns-in_ok-tell_rest-in-Some g c = λ text bytes s.
    cut_is_none g.M.LineMaker.makes c.args.lines.now text bytes c.in-Some.fault s (sym c.in-Some.is ∙ c.finish.ensures text bytes s)

pub returns-in_ok-tell_rest-in-None : goal.returns-in_ok-tell_rest-in-None
returns-in_ok-tell_rest-in-None g c = λ text bytes s.
    c.is_whole.ensures ∙ whole_is_log g.M.LineMaker.makes c.args.lines.now text bytes s (sym c.in-None.is ∙ c.finish.ensures text bytes s)
