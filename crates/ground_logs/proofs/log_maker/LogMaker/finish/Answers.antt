use Rattle.log_lines.specs.Logs.{log_said}
use Rattle.ground_logs.proofs.log_maker.LogMaker.finish.Goals as goal

pub returns : goal.returns
returns g c = λ text bytes s. (c.finish.ensures text (log_said text) s.reader).1
