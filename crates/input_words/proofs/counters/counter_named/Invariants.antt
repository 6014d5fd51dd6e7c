use Rattle.std.proofs.Common.{◌≡◌, drop}
use Rattle.input_words.specs.Counters.{counter_named}
use Rattle.input_words.proofs.counters.counter_named.Given as goal

-- none of the counters before this one has the name
abbrev pub invariant-loop-counter : goal.invariant-loop-counter
invariant-loop-counter l = counter_named l.counters l.name ≡ counter_named (drop l.counter-index l.counters) l.name
