use Rattle.std.proofs.Common.{◌≡◌, take}
use Rattle.memory_window.specs.Regions.{total_of}
use Rattle.memory_window.proofs.regions.total_len.Given as goal

abbrev pub invariant-loop-region : goal.invariant-loop-region
invariant-loop-region l = l.total ≡ total_of (take l.region-index l.regions)
