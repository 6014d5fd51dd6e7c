use Rattle.std.proofs.Common.{◌≡◌, ◌≤◌, ◌-◌, ◌++◌, length, take}
use Rattle.fsw_outside.specs.Told.{WhereTold}
use Rattle.packet_log.proofs.writing.put_part.Given as goal

-- the front of the bytes is appended, and no fault came
abbrev pub invariant-pieces : goal.invariant-pieces
invariant-pieces g l =
    let sink = g.O.Sink in
    record {
      within : l.taken ≤ length l.bytes;
      appended : WhereTold (sink.held l.initial.sink) (sink.held l.sink) (λ before after. after ≡ before ++ take l.taken l.bytes);
      well : sink.faults l.sink ≡ sink.faults l.initial.sink;
    }

abbrev pub decreases-pieces : goal.decreases-pieces
decreases-pieces g l = length l.bytes - l.taken
