use Rattle.std.proofs.Common.{◌≡◌, ◌*◌, ◌≤◌, take}
use Rattle.md_dwell.specs.Lists.{delays}
use Rattle.md_dwell.proofs.tables.delays.Given as goal

-- the sum so far
abbrev pub invariant-loop-entry : goal.invariant-loop-entry
invariant-loop-entry l = record {
  sum : l.sum ≡ delays (take l.entry-index l.entries);
  fits : l.sum ≤ 65535 * l.entry-index;
}
