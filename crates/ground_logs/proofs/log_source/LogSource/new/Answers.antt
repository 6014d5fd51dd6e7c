use Rattle.std.proofs.Common.{refl}
use Rattle.ground_logs.proofs.ComingLemmas.{to_say_all}
use Rattle.ground_logs.proofs.log_source.LogSource.new.Goals as goal

pub returns : goal.returns
returns g c = λ text is. to_say_all g.L.Read.remaining _ text c.new.ensures refl refl is
