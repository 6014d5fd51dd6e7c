-- Banks: the parts of 65,536 bytes into which each region is split from its start, the last one shorter.
use Rattle.std.specs.Prelude.{◌≡◌, ℕ, ◌+◌, ◌-◌, ◌*◌, ◌/◌, ◌<◌, ◌≤◌, Bool, false, ◌&&◌, nat_le, nat_lt, List, take, drop}
use Rattle.std.specs.List.{list_any}
use Rattle.memory_window.specs.declared.regions.Region.{Region}
use Rattle.memory_window.specs.declared.operations.MemOp.{MemOp}
use Rattle.memory_window.specs.Regions.{holds}
use Rattle.memory_window.specs.Landing.{covers}

-- how many bytes a bank has, but for the last one
abbrev pub bank_size : ℕ
bank_size = 65536

-- the bytes of the n-th bank of a region's bytes, counted from 0
unfoldable pub bank_of : ℕ → List ℕ → List ℕ
bank_of n bytes = take bank_size (drop (n * bank_size) bytes)

-- whether an address lies in the n-th bank of a region
unfoldable pub bank_holds : ℕ → Region → ℕ → Bool
bank_holds n r at = holds at r && (nat_le (r.start + n * bank_size) at && nat_lt at (r.start + (n + 1) * bank_size))

-- the bank in which an address of a region lies
unfoldable pub bank_at : Region → ℕ → ℕ
bank_at r at = (at - r.start) / bank_size

-- from the address low to before high, operations write no byte before first, and none from end on
pub record WriteWithin (low high first end : ℕ) (ops : List MemOp) : Type 0 where
  pub before : (a : ℕ) → low ≤ a → a < high → a < first → list_any (λ op. covers op a) ops ≡ false
  pub behind : (a : ℕ) → low ≤ a → a < high → end ≤ a → list_any (λ op. covers op a) ops ≡ false
