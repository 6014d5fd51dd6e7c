use Rattle.std.proofs.Common.{◌≡◌, ◌+◌, ◌*◌, ◌++◌, length, take}
use Rattle.std.specs.List.{flat_map}
use Rattle.hs_monitors.specs.Housekeeping.{shown_bytes}
use Rattle.hs_monitors.proofs.housekeeping.show_counters.Given as goal

-- the counters so far stand behind the bytes
abbrev pub invariant-loop-place : goal.invariant-loop-place
invariant-loop-place l = record {
  size : length l.payload ≡ 16 + 4 * l.place;
  bytes : l.payload ≡ l.fn.payload ++ flat_map (shown_bytes l.counters) (take l.place l.names);
}
