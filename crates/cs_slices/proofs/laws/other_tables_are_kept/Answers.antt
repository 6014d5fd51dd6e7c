use Rattle.cs_slices.proofs.Forgetting.{baseline_stays, pass_stays, on_stays, miscompares_stay, passes_stay}
use Rattle.cs_slices.proofs.laws.other_tables_are_kept.Goals as goal

pub returns : goal.returns
returns c = record {
  baseline = λ tables history a place foreign. baseline_stays tables history a place foreign;
  pass = λ tables history a place foreign. pass_stays tables history a place foreign;
  entry = λ tables history a place foreign below. on_stays tables history a place foreign below;
  miscompares = λ tables history a table. miscompares_stay tables history a table;
  passes = λ tables history a. passes_stay tables history a;
}
