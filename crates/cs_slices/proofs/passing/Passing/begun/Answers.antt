use Rattle.std.proofs.Common.{refl}
use Rattle.cs_slices.proofs.Passes.{stands_begun}
use Rattle.cs_slices.proofs.passing.Passing.begun.Goals as goal

pub returns : goal.returns
returns c = λ happened s same to ends is. stands_begun happened s c.args.place c.args.till c.args.check _ same to ends is refl refl refl
