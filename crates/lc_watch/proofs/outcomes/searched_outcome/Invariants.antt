use Rattle.std.proofs.Common.{◌≡◌, ◌-◌, [], drop}
use Rattle.std.specs.Prelude.{filter_map}
use Rattle.lc_watch.specs.Outcomes.{reading_in}
use Rattle.lc_watch.proofs.outcomes.searched_outcome.Given as goal

-- the packets from place `count` back that were looked at have other ids
abbrev pub invariant-loop-back : goal.invariant-loop-back
invariant-loop-back l = filter_map (reading_in l.row) (drop (l.count - l.back) l.telemetry) ≡ []
