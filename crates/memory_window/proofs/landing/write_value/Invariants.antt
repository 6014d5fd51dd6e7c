use Rattle.std.proofs.Common.{◌≡◌, ℕ, ◌+◌, ◌-◌, ◌*◌, ◌/◌, ◌%◌, ◌^◌, ◌<◌, length, slice_index}
use Rattle.memory_window.proofs.landing.write_value.Given as goal

abbrev pub invariant-loop-k : goal.invariant-loop-k
invariant-loop-k l = (j : ℕ) → j < l.k → j < length l.initial.part → slice_index l.part j ≡ l.value / 2 ^ (8 * (l.size / 8 - 1 - (l.skip + j))) % 256
