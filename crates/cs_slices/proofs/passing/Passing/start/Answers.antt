use Rattle.std.proofs.Common.{refl}
use Rattle.cs_slices.proofs.Passes.{stands_none}
use Rattle.cs_slices.proofs.passing.Passing.start.Goals as goal

pub returns : goal.returns
returns c = stands_none _ refl refl refl
