use Rattle.std.proofs.Common.{◌+◌, ◌%◌, ◌∙◌, ap, sym, ℕ}
use Rattle.std.specs.Prelude.{find}
use Rattle.cs_slices.specs.Orders.{takes_part}
use Rattle.cs_slices.specs.Slices.{ring_from}
use Rattle.cs_slices.proofs.Rings.{search_here, search_later, search_none}
use Rattle.cs_slices.proofs.passing.Passing.next_place.Goals as goal

pub loop-k-preserved : goal.loop-k-preserved
loop-k-preserved c = λ tables happened stood.
    c.loop-k.invariant tables happened stood
    ∙ search_later (takes_part tables happened) c.args.self.now.place c.loop-k.k _ c.loop-k-test.true (ap (λ (n : ℕ). (n + c.loop-k.k) % 32) c.from.ensures) (sym (c.takes_part.ensures tables happened stood) ∙ c.if-takes_part.false)

pub returns-then-takes_part-clause-place : goal.returns-then-takes_part-clause-place
returns-then-takes_part-clause-place c = λ tables happened stood passing.
    sym (
    ap (λ (n : ℕ). find (takes_part tables happened) (ring_from n)) (sym passing.place)
    ∙ c.loop-k.invariant tables happened stood
    ∙ search_here (takes_part tables happened) c.args.self.now.place c.loop-k.k _ c.loop-k-test.true (ap (λ (n : ℕ). (n + c.loop-k.k) % 32) c.from.ensures) (sym (c.takes_part.ensures tables happened stood) ∙ c.if-takes_part.true))

pub returns-clause-place : goal.returns-clause-place
returns-clause-place c = λ tables happened stood passing.
    sym (
    ap (λ (n : ℕ). find (takes_part tables happened) (ring_from n)) (sym passing.place)
    ∙ c.loop-k.invariant tables happened stood
    ∙ search_none (takes_part tables happened) c.args.self.now.place c.loop-k.k c.loop-k-test.false)
