-- Landing: what a byte is after operations, and memory after them.
use Rattle.std.specs.Prelude.{ℕ, ◌+◌, ◌-◌, Bool, ◌&&◌, nat_le, nat_lt, List, fold, if◌then◌else◌}
use Rattle.memory_window.specs.declared.operations.MemOp.{MemOp}
use Rattle.memory_window.specs.Operations.{op_at, op_len, op_byte, protected_by}
use Rattle.memory_window.specs.Memory.{Memory, changed}

-- whether an operation writes the byte at an address
abbrev pub covers : MemOp → ℕ → Bool
covers op a = nat_le (op_at op) a && nat_lt a (op_at op + op_len op)

-- the byte at an address after an operation, which was x before
abbrev pub land_byte : List (ℕ × List ℕ) → MemOp → ℕ → ℕ → ℕ
land_byte loads op a x = if covers op a then op_byte loads op (a - op_at op) else x

-- the byte at an address after all of the operations, in order, which was x before
abbrev pub landed : List (ℕ × List ℕ) → List MemOp → ℕ → ℕ → ℕ
landed loads ops a x = fold (λ y op. land_byte loads op a y) x ops

-- memory after all of the operations, in order
abbrev pub land : List (ℕ × List ℕ) → List MemOp → Memory → Memory
land loads ops m = record { areas = changed (landed loads ops) m.areas; guarded = protected_by ops m.guarded }
