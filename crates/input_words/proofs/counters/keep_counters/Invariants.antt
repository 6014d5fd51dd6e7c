use Rattle.std.proofs.Common.{◌≡◌, take, map}
use Rattle.input_words.specs.declared.counters.WatchedCounter.{WatchedCounter}
use Rattle.input_words.specs.Counters.{counter_named, kept_behind}
use Rattle.input_words.proofs.counters.keep_counters.Given as goal

abbrev pub invariant-loop-counter : goal.invariant-loop-counter
invariant-loop-counter l = l.kept.items ≡ map (λ (w : WatchedCounter). kept_behind w (counter_named l.counters w.name)) (take l.counter-index l.watched)
