use Rattle.std.proofs.Common.{◌≡◌, ◌++◌, take}
use Rattle.std.specs.List.{flat_map}
use Rattle.input_words.specs.declared.counters.WatchedCounter.{WatchedCounter}
use Rattle.input_words.specs.Counters.{counter_named, conduct_told}
use Rattle.input_words.proofs.counters.tell_conducts.Given as goal

abbrev pub invariant-loop-counter : goal.invariant-loop-counter
invariant-loop-counter l = l.out.items ≡ l.fn.out.items ++ flat_map (λ (w : WatchedCounter). conduct_told l.time w (counter_named l.counters w.name)) (take l.counter-index l.watched)
