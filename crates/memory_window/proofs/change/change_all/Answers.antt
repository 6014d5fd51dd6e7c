use Rattle.memory_window.proofs.Areas.{land-turn}
use Rattle.memory_window.proofs.change.change_all.Goals as goal

pub loop-region-preserved : goal.loop-region-preserved
loop-region-preserved g c =
    land-turn (g.C.Change.byte c.args.change.now) c.args.regions.now c.loop-region.region-index c.args.block.now c.loop-region.block c.apply.new.bank c.loop-region.from
    c.loop-region-test.true c.requires.whole c.loop-region.auto.block c.loop-region.invariant c.apply.auto.bank c.apply.ensures
