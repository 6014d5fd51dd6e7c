use Rattle.std.proofs.Common.{refl}
use Rattle.hs_monitors.proofs.Obeying.{ticked_stand}
use Rattle.hs_monitors.proofs.duty.Duty.tick.Goals as goal

pub returns : goal.returns
returns c = λ setup history stood. ticked_stand setup history c.args.self.now _ refl refl refl refl refl c.tick.ensures stood
