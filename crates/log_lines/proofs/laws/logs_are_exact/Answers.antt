use Rattle.log_lines.proofs.LogLemmas.{log_exact}
use Rattle.log_lines.proofs.laws.logs_are_exact.Goals as goal

pub returns : goal.returns
returns c = log_exact
