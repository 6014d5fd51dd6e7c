use Rattle.std.proofs.Common.{refl}
use Rattle.lc_watch.specs.Expressions.{values_left, value_of}
use Rattle.lc_watch.proofs.laws.expression_rows.Goals as goal

pub returns : goal.returns
unfolding values_left value_of
returns c = record {
  both = refl;
  either = refl;
  just_one = refl;
  not_both = refl;
  turned = refl;
  in_order = refl;
  left = refl;
  lacks = refl;
  known = refl;
  unseen = refl;
  outside = refl;
}
