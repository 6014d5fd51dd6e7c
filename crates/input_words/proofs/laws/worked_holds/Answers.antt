use Rattle.std.proofs.Common.{refl}
use Rattle.std.specs.Fmt.{digits as written}
use Rattle.input_words.specs.Holds.{is_held, holds_told}
use Rattle.input_words.proofs.laws.worked_holds.Goals as goal

pub returns : goal.returns
unfolding written is_held holds_told
returns c = record {
  held = refl;
  still = refl;
  woken = refl;
  other = refl;
}
