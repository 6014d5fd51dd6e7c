use Rattle.std.proofs.Common.{refl}
use Rattle.hs_monitors.proofs.Obeying.{starts_stand}
use Rattle.hs_monitors.proofs.duty.Duty.start.Goals as goal

pub returns : goal.returns
returns c = starts_stand c.args.tables.now c.args.made c.args.max _ refl refl c.places_in.ensures c.begun.ensures c.senders_of.ensures c.start.ensures
