use Rattle.log_lines.proofs.LogLemmas.{log_back}
use Rattle.log_lines.proofs.laws.logs_read_back.Goals as goal

pub returns : goal.returns
returns c = log_back
