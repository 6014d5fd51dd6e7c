use Rattle.std.proofs.Common.{◌-◌, ◌≤◌, ℕ, List, length, take}
use Rattle.log_lines.specs.Logs.{log_said, Stands as ReaderStands}
use Rattle.ground_tools.specs.Woven.{Weaves}
use Rattle.ground_tools.proofs.told_pieces.tell_piece.Given as goal

abbrev pub invariant-lines : goal.invariant-lines
invariant-lines g l = record {
  woven : (text : List ℕ) → ReaderStands l.fn.teller.reader text (log_said text) → Weaves l.fn.teller l.teller text (take l.taken l.piece) l.fn.out.items l.out.items;
  taken : l.taken ≤ length l.piece;
}

abbrev pub decreases-lines : goal.decreases-lines
decreases-lines g l = length l.piece - l.taken
