use Rattle.std.proofs.Common.{◌<◌, ◌≤◌, ℕ}
use Rattle.hs_monitors.specs.Entries.{watched_at}
use Rattle.hs_monitors.proofs.kept.least_of.Given as goal

-- no countdown so far is less
abbrev pub invariant-loop-place : goal.invariant-loop-place
invariant-loop-place l = record {
  some : 0 < l.least;
  each : (k : ℕ) → k < l.place → 0 < (watched_at l.watched k).countdown → l.least ≤ (watched_at l.watched k).countdown;
}
