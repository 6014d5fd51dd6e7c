use Rattle.std.proofs.Common.{refl}
use Rattle.lc_watch.specs.Failing.{are_failing}
use Rattle.lc_watch.proofs.laws.failing_rows.Goals as goal

pub returns : goal.returns
unfolding are_failing
returns c = record {
  one = refl;
  none = refl;
  few = refl;
  two = refl;
  broken = refl;
  more = refl;
}
