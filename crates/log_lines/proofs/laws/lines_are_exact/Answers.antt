use Rattle.log_lines.proofs.LineLemmas.{line_exact}
use Rattle.log_lines.proofs.laws.lines_are_exact.Goals as goal

pub returns : goal.returns
returns c = line_exact
