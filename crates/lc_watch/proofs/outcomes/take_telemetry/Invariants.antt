use Rattle.std.proofs.Common.{◌≡◌, ℕ, false, List, length}
use Rattle.lc_watch.specs.Outcomes.{OutcomesStand}
use Rattle.lc_watch.proofs.Taking.{HalfTaken}
use Rattle.lc_watch.proofs.outcomes.take_telemetry.Given as goal

-- the outcomes so far have seen the packets
abbrev pub invariant-loop-place : goal.invariant-loop-place
invariant-loop-place l = record {
  long : length l.outcomes ≡ 32;
  unchanged : l.changed ≡ false → l.outcomes ≡ l.fn.outcomes;
  half : (before : List (List ℕ)) → OutcomesStand l.rows before l.fn.outcomes → HalfTaken l.rows before l.telemetry l.place l.outcomes;
}
