use Rattle.std.proofs.Common.{◌≡◌, ℕ, ◌+◌, ◌<◌, length, take, slice_index}
use Rattle.table_files.specs.Files.{loads_of}
use Rattle.memory_window.specs.Landing.{landed}
use Rattle.memory_window.proofs.landing.bank_land.Given as goal

abbrev pub invariant-loop-op : goal.invariant-loop-op
invariant-loop-op l = (k : ℕ) → k < length l.initial.bank → slice_index l.bank k ≡ landed (loads_of l.files) (take l.op-index l.ops) (l.at + k) (slice_index l.initial.bank k)
