use Rattle.std.proofs.Common.{List, refl, ◌∙◌, subst, take_all}
use Rattle.std.specs.Prelude.{Ok}
use Rattle.std.specs.List.{flat_map}
use Rattle.fsw_outside.specs.declared.traits.Failed.{Failed}
use Rattle.bus_pipes.specs.declared.names.Out.{Out}
use Rattle.packet_log.specs.Blocks.{Puts}
use Rattle.packet_log.specs.Items.{item_line}
use Rattle.frame_wires.proofs.Lines.{nothing_put, lines_more, lines_cut}
use Rattle.frame_wires.proofs.sending.put_items.Goals as goal

pub items-init : goal.items-init
items-init g c = record { put = λ frame head. nothing_put c.args.block.now _; well = refl }

pub items-preserved : goal.items-preserved
items-preserved g c = record {
  put = λ frame head. lines_more (item_line frame) c.args.items.now c.items.item-index c.item-item.result c.items-test.true c.item-item.is c.bytes.result.now (c.bytes.ensures.value ∙ c.write_item.ensures frame head) _ _ _ _ _ _
      (c.items.invariant.put frame head) c.in-Ok.ensures.puts;
  well = c.in-Ok.ensures.cause.kept ∙ c.items.invariant.well;
}

pub returns-in_default-clause-puts : goal.returns-in_default-clause-puts
returns-in_default-clause-puts g c = λ frame head.
    lines_cut (item_line frame) c.args.items.now c.items.item-index c.item-item.result c.items-test.true c.item-item.is c.bytes.result.now (c.bytes.ensures.value ∙ c.write_item.ensures frame head) _ _ _ _ _ _
    (c.items.invariant.put frame head) _ c.in_default.ensures.puts

pub returns-clause-puts : goal.returns-clause-puts
returns-clause-puts g c = λ frame head.
    subst (λ (items : List Out). Puts {E = Failed} (Ok tt) (flat_map (item_line frame) items) c.args.block.now c.items.block (g.O.Sink.held c.args.sink.now) (g.O.Sink.held c.items.sink)) (take_all c.items.item-index c.args.items.now c.items-test.false) (c.items.invariant.put frame head)
