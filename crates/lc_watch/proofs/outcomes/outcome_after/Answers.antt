use Rattle.std.proofs.Common.{sym, ◌∙◌}
use Rattle.lc_watch.proofs.Taking.{outcome_unused}
use Rattle.lc_watch.proofs.outcomes.outcome_after.Goals as goal

pub returns-then-not-is_used : goal.returns-then-not-is_used
returns-then-not-is_used c = λ seen before. before ∙ outcome_unused c.args.row.now seen c.args.telemetry.now (sym c.is_used.ensures ∙ c.if-not-is_used.true)
