-- When a state of MM stands for a history, and when it has nothing to do.
use Rattle.std.specs.Prelude.{◌≡◌, ◌≤◌, ℕ, Bool, ◌==◌, List, length, All}
use Rattle.commands.specs.Counting.{counts_of}
use Rattle.memory_window.specs.Access.{Admitted}
use Rattle.memory_window.specs.Operations.{IsBacked}
use Rattle.memory_window.specs.declared.operations.MemOp.{MemOp}
use Rattle.mm_core.specs.Reading.{Seen}
use Rattle.mm_core.specs.Step.{Input, mm_heard}
use Rattle.mm_core.specs.declared.state.Mm.{Mm}

-- The state stands for a history: its counts are those of the history's verdicts.
unfoldable pub Stands : List Input → Mm → Type 0
Stands history state = state.counts ≡ counts_of (mm_heard history)

-- There are at most so many operations, memory admits each, and the load file that it names is one of these, with its address and its
-- length.
pub record CanLand (seen : Seen) (most : ℕ) (ops : List MemOp) : Type 0 where
  pub few : length ops ≤ most
  pub admitted : All (Admitted seen.image) ops
  pub backed : All (IsBacked seen.loads) ops

-- Without packets MM has nothing to do.
abbrev pub is_idle_on : List (List ℕ) → Bool
is_idle_on commands = length commands == 0
