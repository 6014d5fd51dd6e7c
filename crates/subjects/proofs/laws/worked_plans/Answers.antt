use Rattle.std.proofs.Common.{refl}
use Rattle.subjects.proofs.laws.worked_plans.Goals as goal

pub returns : goal.returns
returns c = record {
  steady = λ _. refl;
  hanging = λ _. refl;
  hanging_at_once = λ _. refl;
  listed = λ _. refl;
  back_to_second = λ _. refl;
  back_to_last = λ _. refl;
  one_counter = λ _. refl;
}
