use Rattle.std.proofs.Common.{◌+◌, List, refl, sym, ap, ◌∙◌, drop}
use Rattle.input_words.specs.declared.counters.WatchedCounter.{WatchedCounter}
use Rattle.input_words.specs.Counters.{with_counters}
use Rattle.input_words.proofs.CounterLemmas.{added_on, added_end}
use Rattle.input_words.proofs.counters.add_counters.Goals as goal

pub loop-counter-init : goal.loop-counter-init
loop-counter-init c = refl

pub loop-counter-preserved : goal.loop-counter-preserved
loop-counter-preserved c =
    c.loop-counter.invariant
    ∙ added_on c.loop-counter.watched.items c.args.counters.now c.loop-counter.counter-index c.counter-item.result c.loop-counter-test.true c.counter-item.is
    ∙ ap (λ (ws : List WatchedCounter). with_counters ws (drop (c.loop-counter.counter-index + 1) c.args.counters.now)) (sym c.in_ok-add_counter.ensures)

pub returns : goal.returns
returns c = sym (c.loop-counter.invariant ∙ added_end c.loop-counter.watched.items c.args.counters.now c.loop-counter.counter-index c.loop-counter-test.false)
