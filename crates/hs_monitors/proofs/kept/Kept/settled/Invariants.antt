use Rattle.std.proofs.Common.{◌≡◌, ◌<◌, ℕ, length}
use Rattle.hs_monitors.specs.Entries.{watched_at, later}
use Rattle.hs_monitors.proofs.kept.Kept.settled.Given as goal

-- the countdowns so far are taken down
abbrev pub invariant-loop-place : goal.invariant-loop-place
invariant-loop-place l = record {
  long : length l.watched ≡ 32;
  each : (k : ℕ) → k < l.place → watched_at l.watched k ≡ later l.self.passed (watched_at l.self.watched k);
}
