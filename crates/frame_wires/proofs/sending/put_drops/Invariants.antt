use Rattle.std.proofs.Common.{◌≡◌, ℕ, take, decimal}
use Rattle.std.specs.Prelude.{Ok}
use Rattle.std.specs.List.{flat_map}
use Rattle.fsw_outside.specs.declared.traits.Failed.{Failed}
use Rattle.packet_log.specs.Blocks.{Puts}
use Rattle.packet_log.specs.Lines.{drop_line}
use Rattle.frame_wires.proofs.sending.put_drops.Given as goal

-- the lines so far were put, and no fault came
abbrev pub invariant-drops : goal.invariant-drops
invariant-drops g l =
    let sink = g.O.Sink in
    record {
      put : (frame : ℕ) → l.head ≡ decimal frame → Puts {E = Failed} (Ok tt) (flat_map (drop_line frame) (take l.lost-index l.drops)) l.initial.block l.block (sink.held l.initial.sink) (sink.held l.sink);
      well : sink.faults l.sink ≡ sink.faults l.initial.sink;
    }
