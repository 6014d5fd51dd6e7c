use Rattle.table_files.specs.Files.{loads_of}
use Rattle.memory_window.specs.Landing.{landed}
use Rattle.memory_window.proofs.Areas.{land-turn}
use Rattle.memory_window.proofs.banks.land_regions.Goals as goal

pub loop-region-preserved : goal.loop-region-preserved
loop-region-preserved g c =
    land-turn (landed (loads_of c.args.landing.now.files.now) c.args.landing.now.ops.now) c.args.regions.now c.loop-region.region-index c.args.block.now c.loop-region.block c.land_region.new.bytes c.loop-region.from
    c.loop-region-test.true c.requires.whole c.loop-region.auto.block c.loop-region.invariant c.land_region.auto.bytes c.land_region.ensures
