use Rattle.std.proofs.Common.{refl}
use Rattle.std.specs.Prelude.{None}
use Rattle.std.proofs.lemmas.List.{get_or-replicate}
use Rattle.cs_slices.proofs.Tallying.{tally_none}
use Rattle.cs_slices.proofs.tally.Tally.start.Goals as goal

pub returns : goal.returns
returns c = tally_none _ refl (λ k below. get_or-replicate 32 k None None below) refl refl refl
