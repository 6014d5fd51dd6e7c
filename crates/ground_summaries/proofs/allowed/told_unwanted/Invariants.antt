use Rattle.std.proofs.Common.{◌≡◌, take}
use Rattle.std.specs.List.{flat_map}
use Rattle.ground_summaries.specs.Told.{unwanted_said}
use Rattle.ground_summaries.proofs.allowed.told_unwanted.Given as goal

abbrev pub invariant-loop-counted : goal.invariant-loop-counted
invariant-loop-counted l = l.out.items ≡ flat_map (unwanted_said l.allowed) (take l.counted-index l.notables)
