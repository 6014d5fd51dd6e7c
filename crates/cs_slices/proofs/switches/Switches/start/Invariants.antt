use Rattle.std.proofs.Common.{◌≡◌, ℕ, ◌<◌, length, get_or, false}
use Rattle.std.specs.Prelude.{◌==◌}
use Rattle.cs_slices.specs.Tables.{pair_of, entry_in}
use Rattle.cs_slices.proofs.switches.Switches.start.Given as goal

-- the entries so far are on by their state
abbrev pub invariant-loop-place : goal.invariant-loop-place
invariant-loop-place l = record {
  whole : length l.entries ≡ 32;
  each : (k : ℕ) → k < l.place → get_or l.entries k false ≡ (entry_in (pair_of l.eeprom l.memory) k).state == 1;
}
