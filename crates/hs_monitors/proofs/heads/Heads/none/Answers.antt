use Rattle.std.proofs.Common.{arith}
use Rattle.hs_monitors.proofs.Noting.{noted_none}
use Rattle.hs_monitors.proofs.heads.Heads.none.Goals as goal

pub returns : goal.returns
returns c = λ named. noted_none named _ (omega arith) (omega arith)
