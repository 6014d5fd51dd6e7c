use Rattle.cs_slices.proofs.Forgetting.{baseline_forgotten, pass_forgotten, on_by_file, untold}
use Rattle.cs_slices.proofs.laws.tables_are_forgotten.Goals as goal

pub returns : goal.returns
returns c = record {
  baseline = λ tables history a place own. baseline_forgotten tables history a place own;
  pass = λ tables history a place own. pass_forgotten tables history a place own;
  entry = λ tables history a place own. on_by_file tables history a place own;
  untold = λ tables history a input s is own. untold tables history a input s is own;
}
