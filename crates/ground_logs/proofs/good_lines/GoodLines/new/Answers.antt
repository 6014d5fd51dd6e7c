use Rattle.std.proofs.Common.{refl}
use Rattle.ground_logs.proofs.ComingLemmas.{has_all_lines}
use Rattle.ground_logs.proofs.good_lines.GoodLines.new.Goals as goal

pub returns : goal.returns
returns g c = λ text is. has_all_lines g.L.Read.remaining _ text refl (c.new.ensures text is)
