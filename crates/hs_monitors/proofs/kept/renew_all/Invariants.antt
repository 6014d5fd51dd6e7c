use Rattle.std.proofs.Common.{◌<◌, List}
use Rattle.packet_forms.specs.declared.name.Counter.{Counter}
use Rattle.hs_monitors.specs.Entries.{KeptStands, kept_with}
use Rattle.hs_monitors.specs.Renewing.{Renewing}
use Rattle.hs_monitors.proofs.kept.renew_all.Given as goal

-- the counters so far were looked at
abbrev pub invariant-loop-counter : goal.invariant-loop-counter
invariant-loop-counter l = record {
  some : 0 < l.fewest;
  renewing : (checks : List (List Counter)) → KeptStands l.apps checks (kept_with l.heads l.fn.watched l.passed l.least) → Renewing l.apps checks l.counters l.counter-index l.passed l.fn.watched l.watched l.fewest;
}
