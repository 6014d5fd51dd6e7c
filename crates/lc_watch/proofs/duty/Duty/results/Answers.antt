use Rattle.std.proofs.Common.{◌∙◌}
use Rattle.lc_watch.proofs.Showing.{results_shown}
use Rattle.lc_watch.proofs.duty.Duty.results.Goals as goal

pub returns : goal.returns
returns c = λ watch telemetry stood. c.codes_of.ensures ∙ results_shown watch telemetry c.args.self.now.outcomes stood
