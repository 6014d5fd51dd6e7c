-- Operations that can be landed.
use Rattle.std.specs.Prelude.{ℕ, List, All}
use Rattle.memory_window.specs.Memory.{Memory}
use Rattle.memory_window.specs.Access.{Admitted}
use Rattle.memory_window.specs.Operations.{IsBacked}
use Rattle.memory_window.specs.declared.operations.MemOp.{MemOp}

-- operations can be landed on memory: it admits each of them, and the load file that one names is among these, with its address and length
pub record CanLand (loads : List (ℕ × List ℕ)) (image : Memory) (ops : List MemOp) : Type 0 where
  pub admitted : All (Admitted image) ops
  pub backed : All (IsBacked loads) ops
