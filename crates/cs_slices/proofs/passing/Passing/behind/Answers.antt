use Rattle.std.proofs.Common.{refl}
use Rattle.cs_slices.proofs.Passes.{stands_behind}
use Rattle.cs_slices.proofs.passing.Passing.behind.Goals as goal

pub returns : goal.returns
returns c = λ happened s same ends. stands_behind happened s c.args.place _ same ends refl refl refl
