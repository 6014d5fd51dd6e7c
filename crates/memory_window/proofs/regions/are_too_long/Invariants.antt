use Rattle.std.proofs.Common.{◌≡◌, ◌-◌, ◌^◌, min, take}
use Rattle.memory_window.specs.Regions.{total_of}
use Rattle.memory_window.proofs.regions.are_too_long.Given as goal

abbrev pub invariant-loop-region : goal.invariant-loop-region
invariant-loop-region l = l.total ≡ min (total_of (take l.region-index l.regions)) (2 ^ 64 - 1)
