use Rattle.std.proofs.Common.{ℕ, List, sym, ap, ◌∙◌}
use Rattle.hs_monitors.specs.Acting.{is_same}
use Rattle.hs_monitors.proofs.Finding.{found_first, found_later, found_here, found_end}
use Rattle.hs_monitors.proofs.watches.counter_in.Goals as goal

pub loop-counter-init : goal.loop-counter-init
loop-counter-init c = found_first c.args.counters.now c.args.name.now

pub loop-counter-preserved : goal.loop-counter-preserved
loop-counter-preserved c =
    c.loop-counter.invariant
    ∙ found_later c.args.counters.now c.args.name.now c.loop-counter.counter-index c.counter-item.result c.loop-counter-test.true c.counter-item.is
    (ap (λ (name : List ℕ). is_same name c.args.name.now) (sym c.bytes.ensures.value) ∙ ap (is_same c.bytes.result.now) (sym c.bytes-in-loop-counter.ensures.value) ∙ sym c.is_same.ensures ∙ c.if-is_same.false)

pub returns : goal.returns
returns c = sym (c.loop-counter.invariant ∙ found_end c.args.counters.now c.args.name.now c.loop-counter.counter-index c.loop-counter-test.false)

pub returns-then-is_same : goal.returns-then-is_same
returns-then-is_same c =
    sym (
    c.loop-counter.invariant
    ∙ found_here c.args.counters.now c.args.name.now c.loop-counter.counter-index c.counter-item.result c.loop-counter-test.true c.counter-item.is
    (ap (λ (name : List ℕ). is_same name c.args.name.now) (sym c.bytes.ensures.value) ∙ ap (is_same c.bytes.result.now) (sym c.bytes-in-loop-counter.ensures.value) ∙ sym c.is_same.ensures ∙ c.if-is_same.true))
