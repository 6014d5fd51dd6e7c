use Rattle.std.proofs.Common.{◌≡◌, length}
use Rattle.memory_window.specs.Regions.{has_overlap}
use Rattle.memory_window.proofs.regions.has_overlap.Given as goal

abbrev pub invariant-loop-rest : goal.invariant-loop-rest
invariant-loop-rest l = has_overlap l.regions ≡ has_overlap l.rest

abbrev pub decreases-loop-rest : goal.decreases-loop-rest
decreases-loop-rest l = length l.rest
