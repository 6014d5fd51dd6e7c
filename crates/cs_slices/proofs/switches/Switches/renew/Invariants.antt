use Rattle.std.proofs.Common.{◌≡◌, ℕ, ◌<◌, length, get_or, cond, false}
use Rattle.std.specs.Prelude.{◌==◌}
use Rattle.cs_slices.specs.Tables.{pair_of, entry_in}
use Rattle.cs_slices.specs.Orders.{table_of}
use Rattle.cs_slices.proofs.switches.Switches.renew.Given as goal

-- the entries so far are those of the table by their state, and others as they were
abbrev pub invariant-loop-place : goal.invariant-loop-place
invariant-loop-place l = record {
  whole : length l.entries ≡ 32;
  each : (k : ℕ) → k < l.place → get_or l.entries k false ≡ cond (l.table == table_of k) ((entry_in (pair_of l.segments l.segments) k).state == 1) (get_or l.self.entries k false);
}
