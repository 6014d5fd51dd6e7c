use Rattle.std.proofs.Common.{ℕ, List, refl, sym, ap, ◌∙◌}
use Rattle.input_words.specs.Counters.{are_same}
use Rattle.input_words.proofs.CounterLemmas.{named_on, named_here, named_end}
use Rattle.input_words.proofs.counters.counter_named.Goals as goal

pub loop-counter-init : goal.loop-counter-init
loop-counter-init c = refl

pub loop-counter-preserved : goal.loop-counter-preserved
loop-counter-preserved c =
    c.loop-counter.invariant
    ∙ named_on c.args.counters.now c.args.name.now c.loop-counter.counter-index c.counter-item.result c.loop-counter-test.true c.counter-item.is
    (ap (λ (name : List ℕ). are_same name c.args.name.now) (sym c.bytes.ensures.value) ∙ ap (are_same c.bytes.result.now) (sym c.bytes-in-loop-counter.ensures.value) ∙ sym c.are_same.ensures ∙ c.if-are_same.false)

pub returns : goal.returns
returns c = sym (c.loop-counter.invariant ∙ named_end c.args.counters.now c.args.name.now c.loop-counter.counter-index c.loop-counter-test.false)

pub returns-then-are_same : goal.returns-then-are_same
returns-then-are_same c =
    sym (
    c.loop-counter.invariant
    ∙ named_here c.args.counters.now c.args.name.now c.loop-counter.counter-index c.counter-item.result c.loop-counter-test.true c.counter-item.is
    (ap (λ (name : List ℕ). are_same name c.args.name.now) (sym c.bytes.ensures.value) ∙ ap (are_same c.bytes.result.now) (sym c.bytes-in-loop-counter.ensures.value) ∙ sym c.are_same.ensures ∙ c.if-are_same.true))
