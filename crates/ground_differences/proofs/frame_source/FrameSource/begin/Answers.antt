use Rattle.ground_logs.specs.Making.{lines_of, is_log}
use Rattle.ground_differences.proofs.frame_source.FrameSource.begin.Goals as goal

pub returns : goal.returns
returns g c = λ text is. c.in_ok-next.ensures (lines_of text) (is_log text) (c.new-source.ensures text is)
