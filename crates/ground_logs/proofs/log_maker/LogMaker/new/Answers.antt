use Rattle.std.proofs.Common.{refl}
use Rattle.ground_logs.proofs.MakingLemmas.{stands_none}
use Rattle.ground_logs.proofs.log_maker.LogMaker.new.Goals as goal

pub returns-clause-stands : goal.returns-clause-stands
returns-clause-stands g c = stands_none g.M.LineMaker.makes _ c.new.ensures refl
