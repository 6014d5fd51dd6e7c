use Rattle.std.proofs.Common.{◌≡◌, ◌*◌, ℕ, List, Option}
use Rattle.sc_sequences.specs.Cursors.{lowest_from, lowest_each}
use Rattle.sc_sequences.proofs.cursors.soonest.Given as goal

-- the lowest key of the groups so far
abbrev pub invariant-loop-group : goal.invariant-loop-group
invariant-loop-group l = (times : List (Option ℕ)) → l.lowest ≡ lowest_each times → l.first ≡ lowest_from times 0 (6 * l.group)
