use Rattle.std.proofs.Common.{◌≡◌, ℕ, ◌&&◌, ◌||◌, ◌∷◌, not, Bool, Some, sym, ap, ◌∙◌, cond, ◌+◌, ◌*◌}
use Rattle.lc_watch.specs.Outcomes.{kept_at, is_tripped}
use Rattle.lc_watch.specs.Expressions.{differ, with_one, with_two, worked, tripped_in}
use Rattle.lc_watch.specs.declared.outcomes.Outcome.{Outcome}
use Rattle.lc_watch.proofs.Stacks.{one_left, two_left, put_left}
use Rattle.lc_watch.proofs.evaluation.stack_after.Goals as goal

pub returns-in-Watch-clause-left : goal.returns-in-Watch-clause-left
returns-in-Watch-clause-left c = λ values left next stack done is.
    let value : ℕ → Bool = tripped_in (kept_at c.args.outcomes.now) in
    let done_watch : Some (value c.in-Watch.place ∷ values) ≡ Some left = ap (worked value values) (sym c.in-Watch.is) ∙ done in
    c.put_outcome.ensures.left next is ∙ ap (λ (o : Outcome). cond (is_tripped o) 1 0 + 2 * c.args.stack) c.outcome_in.ensures
    ∙ put_left (value c.in-Watch.place) values left c.args.stack stack done_watch

pub returns-in-And-clause-left : goal.returns-in-And-clause-left
returns-in-And-clause-left c = λ values left next stack done is.
    let value : ℕ → Bool = tripped_in (kept_at c.args.outcomes.now) in
    let done_and : with_two (λ a b. a && b) values ≡ Some left = ap (worked value values) (sym c.in-And.is) ∙ done in
    let same : c.put.result ≡ next = cc in
    sym same ∙ c.put.ensures ∙ rw (c.is_last.ensures, c.is_last-in-And.ensures) (two_left (λ a b. a && b) values left c.args.stack stack done_and)

pub returns-in-Or-clause-left : goal.returns-in-Or-clause-left
returns-in-Or-clause-left c = λ values left next stack done is.
    let value : ℕ → Bool = tripped_in (kept_at c.args.outcomes.now) in
    let done_or : with_two (λ a b. a || b) values ≡ Some left = ap (worked value values) (sym c.in-Or.is) ∙ done in
    let same : c.put-in-Or.result ≡ next = cc in
    sym same ∙ c.put-in-Or.ensures ∙ rw (c.is_last-in-Or.ensures, c.is_last-in-Or-2.ensures) (two_left (λ a b. a || b) values left c.args.stack stack done_or)

pub returns-in-Xor-clause-left : goal.returns-in-Xor-clause-left
returns-in-Xor-clause-left c = λ values left next stack done is.
    let value : ℕ → Bool = tripped_in (kept_at c.args.outcomes.now) in
    let done_xor : with_two differ values ≡ Some left = ap (worked value values) (sym c.in-Xor.is) ∙ done in
    let same : c.put-in-Xor.result ≡ next = cc in
    sym same ∙ c.put-in-Xor.ensures ∙ rw (c.differ.ensures, c.is_last-in-Xor.ensures, c.is_last-in-Xor-2.ensures) (two_left differ values left c.args.stack stack done_xor)

pub returns-in-Not-clause-left : goal.returns-in-Not-clause-left
returns-in-Not-clause-left c = λ values left next stack done is.
    let value : ℕ → Bool = tripped_in (kept_at c.args.outcomes.now) in
    let done_not : with_one not values ≡ Some left = ap (worked value values) (sym c.in-Not.is) ∙ done in
    let same : c.put-in-Not.result ≡ next = cc in
    sym same ∙ c.put-in-Not.ensures ∙ rw (c.is_last-in-Not.ensures) (one_left not values left c.args.stack stack done_not)
