use Rattle.log_lines.specs.Logs.{log_said}
use Rattle.ground_tools.proofs.log_teller.LogTeller.finish.Goals as goal

pub returns : goal.returns
returns c = λ front text out s. (c.finish.ensures text (log_said text) s.reader).1
