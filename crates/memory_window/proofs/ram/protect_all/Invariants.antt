use Rattle.std.proofs.Common.{◌≡◌, take}
use Rattle.memory_window.specs.Operations.{protected_by}
use Rattle.memory_window.proofs.ram.protect_all.Given as goal

abbrev pub invariant-loop-op : goal.invariant-loop-op
invariant-loop-op l = l.flags ≡ protected_by (take l.op-index l.ops) l.initial.flags
