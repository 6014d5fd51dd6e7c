use Rattle.std.proofs.Common.{◌≡◌, ◌*◌}
use Rattle.sc_sequences.specs.Cursors.{next_times, lowest_from}
use Rattle.sc_sequences.proofs.cursors.lowest_in.Given as goal

-- the lowest key of the places so far
abbrev pub invariant-loop-k : goal.invariant-loop-k
invariant-loop-k l = l.lowest ≡ lowest_from (next_times l.all) (6 * l.group) l.k
