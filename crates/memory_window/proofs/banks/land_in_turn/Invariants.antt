use Rattle.std.proofs.Common.{◌≡◌, ℕ, ◌+◌, ◌*◌, ◌<◌, ◌≤◌, length, slice_index}
use Rattle.table_files.specs.Files.{loads_of}
use Rattle.memory_window.specs.Landing.{landed}
use Rattle.memory_window.specs.Banks.{bank_size}
use Rattle.memory_window.proofs.banks.land_in_turn.Given as goal

abbrev pub invariant-loop-bank : goal.invariant-loop-bank
invariant-loop-bank g l = (k : ℕ) → k < length l.initial.bytes
    → (k < l.bank * bank_size → slice_index l.bytes k ≡ landed (loads_of l.landing.files.now) l.landing.ops.now (l.at + k) (slice_index l.initial.bytes k))
    × (l.bank * bank_size ≤ k → slice_index l.bytes k ≡ slice_index l.initial.bytes k)
