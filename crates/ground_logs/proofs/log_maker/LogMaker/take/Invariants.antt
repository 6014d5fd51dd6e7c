use Rattle.std.proofs.Common.{◌≤◌, ◌-◌, take, length}
use Rattle.ground_logs.specs.Making.{Appended}
use Rattle.ground_logs.proofs.log_maker.LogMaker.take.Given as goal

abbrev pub invariant-lines : goal.invariant-lines
invariant-lines g l = record {
  made : Appended g.M.LineMaker.makes l.fn.self l.self (take l.taken l.piece) l.fn.out.items l.out.items;
  taken : l.taken ≤ length l.piece;
}

abbrev pub decreases-lines : goal.decreases-lines
decreases-lines g l = length l.piece - l.taken
