use Rattle.std.proofs.Common.{◌≡◌, ℕ, ◌<◌, get_or, vec_len}
use Rattle.crew_board.proofs.crew.number_all.Given as goal

abbrev pub invariant-loop-job : goal.invariant-loop-job
invariant-loop-job l = record {
  len : vec_len l.all ≡ l.job;
  order : (k : ℕ) → k < l.job → get_or l.all.items k 0 ≡ k;
}
