use Rattle.std.proofs.Common.{◌≡◌, ◌+◌, replicate}
use Rattle.memory_block.proofs.store.Store.zeroed.Given as goal

abbrev pub invariant-loop-len : goal.invariant-loop-len
invariant-loop-len l = (l.bytes.at ≡ l.ptr) × (l.bytes.items ≡ replicate l.len 0) × (l.bytes.spare + l.len ≡ l.size)
