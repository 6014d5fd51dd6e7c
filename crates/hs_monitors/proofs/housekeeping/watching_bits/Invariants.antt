use Rattle.std.proofs.Common.{◌≡◌, ◌<◌, ℕ, List, false, length, get_or}
use Rattle.packet_forms.specs.declared.name.Counter.{Counter}
use Rattle.hs_monitors.specs.Monitors.{row_at, is_watching}
use Rattle.hs_monitors.specs.Entries.{EntriesStand}
use Rattle.hs_monitors.proofs.housekeeping.watching_bits.Given as goal

-- each bit so far tells whether its entry watches
abbrev pub invariant-loop-place : goal.invariant-loop-place
invariant-loop-place l = record {
  long : length l.bits ≡ 32;
  each : (checks : List (List Counter)) → EntriesStand l.apps (λ (k : ℕ). checks) l.kept → (k : ℕ) → k < l.place → get_or l.bits k false ≡ is_watching checks (row_at l.apps k);
}
