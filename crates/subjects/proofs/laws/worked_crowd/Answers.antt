use Rattle.std.proofs.Common.{refl}
use Rattle.subjects.specs.Crowds.{is_named, restarted_if}
use Rattle.subjects.proofs.laws.worked_crowd.Goals as goal

pub returns : goal.returns
unfolding is_named restarted_if
returns c = record {
  first_readings = refl;
  third_readings = refl;
  restarted = refl;
  one_restarted = refl;
  none_restarted = refl;
  all_restarted = refl;
  deleted = refl;
  one_deleted = refl;
  none_deleted = refl;
}
