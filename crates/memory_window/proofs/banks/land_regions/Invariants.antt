use Rattle.std.proofs.Common.{◌≡◌, take, drop}
use Rattle.table_files.specs.Files.{loads_of}
use Rattle.memory_window.specs.Regions.{total_of}
use Rattle.memory_window.specs.Landing.{landed}
use Rattle.memory_window.specs.Memory.{cut, changed}
use Rattle.memory_window.proofs.banks.land_regions.Given as goal

abbrev pub invariant-loop-region : goal.invariant-loop-region
invariant-loop-region g l =
    let done = take l.region-index l.regions in
    (l.from ≡ total_of done)
    × (drop l.from l.block ≡ drop l.from l.initial.block)
    × (cut done (take l.from l.block) ≡ changed (landed (loads_of l.landing.files.now) l.landing.ops.now) (cut done (take l.from l.initial.block)))
