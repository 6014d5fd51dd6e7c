use Rattle.std.proofs.Common.{◌≤◌, ◌-◌, take, length}
use Rattle.ground_logs.specs.Making.{Writes}
use Rattle.ground_logs.proofs.telling.Telling.make_piece.Given as goal

abbrev pub invariant-parts : goal.invariant-parts
invariant-parts g l = record {
  made : Writes g.M.LineMaker.makes l.fn.lines l.lines (take l.taken l.piece) (g.W.Write.contents l.fn.out) (g.W.Write.contents l.out);
  taken : l.taken ≤ length l.piece;
}

abbrev pub decreases-parts : goal.decreases-parts
decreases-parts g l = length l.piece - l.taken
