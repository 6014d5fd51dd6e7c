use Rattle.std.proofs.Common.{ap, ◌∙◌}
use Rattle.cs_slices.proofs.Telling.{slice_miscompares, happened_before, told_where, told_before_end, told_first, told_later}
use Rattle.cs_slices.proofs.laws.miscompares_are_told.Goals as goal

pub returns : goal.returns
returns c = record {
  none = λ tables history input none. told_where tables history input ∙ ap (slice_miscompares (happened_before tables history input)) none;
  unfinished = λ tables history input s is goes. told_before_end tables history input s is goes;
  first = λ tables history input s is none. told_first tables history input s is none;
  later = λ tables history input s base is whole some. told_later tables history input s is base whole some;
}
