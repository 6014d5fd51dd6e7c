use Rattle.std.proofs.Common.{◌≤◌, ◌-◌, ◌++◌, ℕ, List, take, length}
use Rattle.ground_tools.specs.Telling.{Stands, KeepsNames}
use Rattle.ground_tools.proofs.log_teller.LogTeller.tell.Given as goal

abbrev pub invariant-lines : goal.invariant-lines
invariant-lines l = record {
  told : (front text : List ℕ) → Stands l.fn.self front text l.fn.out.items → Stands l.self front (text ++ take l.taken l.piece) l.out.items;
  taken : l.taken ≤ length l.piece;
  names : KeepsNames l.fn.self l.self;
}

abbrev pub decreases-lines : goal.decreases-lines
decreases-lines l = length l.piece - l.taken
