use Rattle.std.proofs.Common.{◌≡◌, drop}
use Rattle.input_words.specs.Counters.{with_counters}
use Rattle.input_words.proofs.counters.add_counters.Given as goal

-- what is left to add to the counters so far gives what all add to those at first
abbrev pub invariant-loop-counter : goal.invariant-loop-counter
invariant-loop-counter l = with_counters l.fn.watched.items l.counters ≡ with_counters l.watched.items (drop l.counter-index l.counters)
