use Rattle.std.proofs.Common.{◌≡◌, ℕ, ◌<◌, length, get_or, cond, None}
use Rattle.std.specs.Prelude.{◌==◌}
use Rattle.cs_slices.specs.Orders.{table_of}
use Rattle.cs_slices.proofs.tally.Tally.renew.Given as goal

-- the baselines so far are none of the table's, and others as they were
abbrev pub invariant-loop-place : goal.invariant-loop-place
invariant-loop-place l = record {
  whole : length l.baselines ≡ 32;
  each : (k : ℕ) → k < l.place → get_or l.baselines k None ≡ cond (l.table == table_of k) None (get_or l.self.baselines k None);
}
