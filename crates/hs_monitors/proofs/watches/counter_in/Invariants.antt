use Rattle.std.proofs.Common.{◌≡◌}
use Rattle.hs_monitors.specs.Acting.{counter_in}
use Rattle.hs_monitors.proofs.Finding.{found_from}
use Rattle.hs_monitors.proofs.watches.counter_in.Given as goal

-- no counter before this one has the name
abbrev pub invariant-loop-counter : goal.invariant-loop-counter
invariant-loop-counter l = counter_in l.counters l.name ≡ found_from l.counters l.name l.counter-index
