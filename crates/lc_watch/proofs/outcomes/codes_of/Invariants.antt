use Rattle.std.proofs.Common.{◌≡◌, ◌<◌, ◌-◌, ◌^◌, ◌*◌, drop}
use Rattle.lc_watch.specs.Housekeeping.{codes_of}
use Rattle.lc_watch.proofs.outcomes.codes_of.Given as goal

-- the outcomes so far, from the last one on
abbrev pub invariant-loop-done : goal.invariant-loop-done
invariant-loop-done l = record {
  small : l.codes < 2 ^ (2 * l.done);
  codes : l.codes ≡ codes_of (drop (32 - l.done) l.outcomes);
}
