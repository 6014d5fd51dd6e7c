use Rattle.std.proofs.Common.{◌*◌, ◌≤◌, ◌++◌, ◌∷◌, [], ℕ, List, length}
use Rattle.memory_window.specs.Memory.{Memory}
use Rattle.memory_window.specs.Window.{seen}
use Rattle.md_dwell.specs.Readings.{IsReadTo}
use Rattle.md_dwell.proofs.streams.gather.Given as goal

-- the entries before this one were read, and it is due too
abbrev pub invariant-loop-i : goal.invariant-loop-i
invariant-loop-i l = record {
  held : length l.bytes ≤ 4 * l.i;
  read : (from : ℕ) (past : List Memory) → IsReadTo l.list from (past ++ seen l.window ∷ []) l.fn.next 0 l.fn.bytes → IsReadTo l.list from (past ++ seen l.window ∷ []) l.i 0 l.bytes;
}
