use Rattle.std.proofs.Common.{◌≡◌, vec_len}
use Rattle.crew_board.proofs.row.fresh_scratches.Given as goal

abbrev pub invariant-loop-job : goal.invariant-loop-job
invariant-loop-job g l = vec_len l.scratches ≡ l._job
