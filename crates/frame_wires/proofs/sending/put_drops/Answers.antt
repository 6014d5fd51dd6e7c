use Rattle.std.proofs.Common.{List, refl, ◌∙◌, subst, take_all}
use Rattle.std.specs.Prelude.{Ok}
use Rattle.std.specs.List.{flat_map}
use Rattle.fsw_outside.specs.declared.traits.Failed.{Failed}
use Rattle.bus_pipes.specs.declared.names.Dropped.{Dropped}
use Rattle.packet_log.specs.Blocks.{Puts}
use Rattle.packet_log.specs.Lines.{drop_line}
use Rattle.frame_wires.proofs.Lines.{nothing_put, lines_more, lines_cut}
use Rattle.frame_wires.proofs.sending.put_drops.Goals as goal

pub drops-init : goal.drops-init
drops-init g c = record { put = λ frame head. nothing_put c.args.block.now _; well = refl }

pub drops-preserved : goal.drops-preserved
drops-preserved g c = record {
  put = λ frame head. lines_more (drop_line frame) c.args.drops.now c.drops.lost-index c.lost-item.result c.drops-test.true c.lost-item.is c.bytes.result.now (c.bytes.ensures.value ∙ c.write_drop.ensures frame head) _ _ _ _ _ _
      (c.drops.invariant.put frame head) c.in-Ok.ensures.puts;
  well = c.in-Ok.ensures.cause.kept ∙ c.drops.invariant.well;
}

pub returns-in_default-clause-puts : goal.returns-in_default-clause-puts
returns-in_default-clause-puts g c = λ frame head.
    lines_cut (drop_line frame) c.args.drops.now c.drops.lost-index c.lost-item.result c.drops-test.true c.lost-item.is c.bytes.result.now (c.bytes.ensures.value ∙ c.write_drop.ensures frame head) _ _ _ _ _ _
    (c.drops.invariant.put frame head) _ c.in_default.ensures.puts

pub returns-clause-puts : goal.returns-clause-puts
returns-clause-puts g c = λ frame head.
    subst (λ (items : List Dropped). Puts {E = Failed} (Ok tt) (flat_map (drop_line frame) items) c.args.block.now c.drops.block (g.O.Sink.held c.args.sink.now) (g.O.Sink.held c.drops.sink)) (take_all c.drops.lost-index c.args.drops.now c.drops-test.false) (c.drops.invariant.put frame head)
