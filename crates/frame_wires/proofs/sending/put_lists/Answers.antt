use Rattle.std.proofs.Common.{ℕ, List, refl, sym, ◌∙◌, ap, subst, take_all}
use Rattle.std.specs.Borrow.{Bor}
use Rattle.std.specs.Prelude.{Ok, Err}
use Rattle.std.specs.List.{flat_map}
use Rattle.fsw_outside.specs.declared.traits.Failed.{Failed}
use Rattle.bus_pipes.specs.declared.names.Out.{Out}
use Rattle.packet_log.specs.Blocks.{Puts}
use Rattle.packet_log.specs.Items.{item_line}
use Rattle.frame_wires.proofs.Lines.{nothing_put, lines_more, lines_cut, in_lists}
use Rattle.frame_wires.proofs.sending.put_lists.Goals as goal

-- the lines of a list
abbrev lines_of : ℕ → Bor (List Out) → List ℕ
lines_of frame list = flat_map (item_line frame) list.now

pub lists-init : goal.lists-init
lists-init g c = record { put = λ frame head. nothing_put c.args.block.now _; well = refl }

pub lists-preserved : goal.lists-preserved
lists-preserved g c = record {
  put = λ frame head. lines_more (lines_of frame) c.args.lists.now c.lists.list-index c.list-item.result c.lists-test.true c.list-item.is (lines_of frame c.list-item.result) refl _ _ _ _ _ _
      (c.lists.invariant.put frame head) (c.in-Ok.ensures.puts frame head);
  well = c.in-Ok.ensures.cause.kept ∙ c.lists.invariant.well;
}

pub returns-in_default-clause-puts : goal.returns-in_default-clause-puts
returns-in_default-clause-puts g c = λ frame head.
    subst (λ (bytes : List ℕ). Puts {E = Failed} (Err c.in_default.field-0) bytes c.args.block.now c.put_items.new.block (g.O.Sink.held c.args.sink.now) (g.O.Sink.held c.put_items.new.sink)) (sym (in_lists (item_line frame) c.args.lists.now))
    (lines_cut (lines_of frame) c.args.lists.now c.lists.list-index c.list-item.result c.lists-test.true c.list-item.is (lines_of frame c.list-item.result) refl _ _ _ _ _ _
    (c.lists.invariant.put frame head) _ (c.in_default.ensures.puts frame head))

pub returns-clause-puts : goal.returns-clause-puts
returns-clause-puts g c = λ frame head.
    subst (λ (bytes : List ℕ). Puts {E = Failed} (Ok tt) bytes c.args.block.now c.lists.block (g.O.Sink.held c.args.sink.now) (g.O.Sink.held c.lists.sink)) (ap (flat_map (lines_of frame)) (take_all c.lists.list-index c.args.lists.now c.lists-test.false) ∙ sym (in_lists (item_line frame) c.args.lists.now))
    (c.lists.invariant.put frame head)
