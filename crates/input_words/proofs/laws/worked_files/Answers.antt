use Rattle.std.proofs.Common.{refl}
use Rattle.std.specs.Fmt.{digits as written}
use Rattle.input_words.specs.Inputs.{files_told}
use Rattle.input_words.proofs.laws.worked_files.Goals as goal

pub returns : goal.returns
unfolding written files_told
returns c = record {
  none = refl;
  one = refl;
}
