use Rattle.std.proofs.Common.{take}
use Rattle.memory_window.specs.Banks.{WriteWithin}
use Rattle.memory_window.proofs.banks.span_of.Given as goal

abbrev pub invariant-loop-op : goal.invariant-loop-op
invariant-loop-op l = WriteWithin l.low l.high l.span.first l.span.end (take l.op-index l.ops)
