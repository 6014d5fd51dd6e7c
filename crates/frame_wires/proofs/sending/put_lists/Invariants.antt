use Rattle.std.proofs.Common.{◌≡◌, ℕ, List, take, decimal}
use Rattle.std.specs.Borrow.{Bor}
use Rattle.std.specs.Prelude.{Ok}
use Rattle.std.specs.List.{flat_map}
use Rattle.fsw_outside.specs.declared.traits.Failed.{Failed}
use Rattle.bus_pipes.specs.declared.names.Out.{Out}
use Rattle.packet_log.specs.Blocks.{Puts}
use Rattle.packet_log.specs.Items.{item_line}
use Rattle.frame_wires.proofs.sending.put_lists.Given as goal

-- the lines of the lists so far were put, and no fault came
abbrev pub invariant-lists : goal.invariant-lists
invariant-lists g l =
    let sink = g.O.Sink in
    record {
      put : (frame : ℕ) → l.head ≡ decimal frame
          → Puts {E = Failed} (Ok tt) (flat_map (λ (list : Bor (List Out)). flat_map (item_line frame) list.now) (take l.list-index l.lists)) l.initial.block l.block (sink.held l.initial.sink) (sink.held l.sink);
      well : sink.faults l.sink ≡ sink.faults l.initial.sink;
    }
