use Rattle.log_lines.proofs.LineLemmas.{line_back}
use Rattle.log_lines.proofs.laws.lines_read_back.Goals as goal

pub returns : goal.returns
returns c = line_back
