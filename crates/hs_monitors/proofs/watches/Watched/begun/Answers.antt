use Rattle.std.proofs.Common.{refl}
use Rattle.hs_monitors.proofs.Checks.{begun_stands}
use Rattle.hs_monitors.proofs.watches.Watched.begun.Goals as goal

pub returns : goal.returns
returns c = begun_stands c.args.entry.now _ refl refl
