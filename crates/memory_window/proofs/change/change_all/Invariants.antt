use Rattle.std.proofs.Common.{◌≡◌, take, drop}
use Rattle.memory_window.specs.Regions.{total_of}
use Rattle.memory_window.specs.Memory.{cut, changed}
use Rattle.memory_window.proofs.change.change_all.Given as goal

abbrev pub invariant-loop-region : goal.invariant-loop-region
invariant-loop-region g l =
    let done = take l.region-index l.regions in
    (l.from ≡ total_of done)
    × (drop l.from l.block ≡ drop l.from l.initial.block)
    × (cut done (take l.from l.block) ≡ changed (g.C.Change.byte l.change) (cut done (take l.from l.initial.block)))
