use Rattle.std.proofs.Common.{◌≡◌, ◌<◌, ◌+◌, ℕ, List, false, length, get_or}
use Rattle.sc_tables.specs.Commands.{TimedCommand}
use Rattle.sc_sequences.specs.Sequences.{Sequence, is_running, at_place}
use Rattle.sc_sequences.specs.State.{CursorsStand}
use Rattle.sc_sequences.proofs.housekeeping.masks_of.Given as goal

-- each flag so far tells of its sequence
abbrev pub invariant-loop-k : goal.invariant-loop-k
invariant-loop-k l = record {
  running_long : length l.running ≡ 64;
  enabled_long : length l.enabled ≡ 64;
  running : (tables : List (List TimedCommand)) (all : List Sequence) → CursorsStand tables all l.cursors → (i : ℕ) → i < l.k → get_or l.running i false ≡ is_running (at_place all (i + 2));
  enabled : (tables : List (List TimedCommand)) (all : List Sequence) → CursorsStand tables all l.cursors → (i : ℕ) → i < l.k → get_or l.enabled i false ≡ (at_place all (i + 2)).enabled;
}
