use Rattle.std.proofs.Common.{◌≡◌, Bool, true, false, List, [], ◌∷◌, ◌∙◌, ap, sym, subst, arith}
use Rattle.std.proofs.lemmas.Bool.{and_parts}
use Rattle.bus_pipes.specs.declared.names.Out.{Out}
use Rattle.app_suite.specs.declared.lc_slot.LcSlot.{LcSlot}
use Rattle.app_suite.specs.Jobs.{jobs_of}
use Rattle.app_suite.specs.Wakes.{joined, next_of}
use Rattle.app_suite.proofs.Taking.{five_or_six}
use Rattle.frame_exec.proofs.Woken.{over_beside}
use Rattle.frame_exec.proofs.applications.Applications.take_over.Goals as goal

-- no truth value is both
not_both : {A : Type 0} (b : Bool) → b ≡ true → b ≡ false → A
not_both true is isnt = cc
not_both false is isnt = cc

pub take_over_first-none-requires-clause-manned : goal.take_over_first-none-requires-clause-manned
take_over_first-none-requires-clause-manned c = omega (arith, c.requires.manned, five_or_six c.args.self.now.lc.there)

-- LC isn't there: it stays as it was, and gave nothing
pub returns-then-not-self-clause-lc : goal.returns-then-not-self-clause-lc
returns-then-not-self-clause-lc c = λ there. not_both _ there (sym (ap (λ (l : LcSlot). l.there) c.take_over_first-none.ensures.lc) ∙ c.if-not-self.true)

-- LC is there
pub take_over-requires-clause-job : goal.take_over-requires-clause-job
take_over-requires-clause-job c =
    let there = sym (ap (λ (l : LcSlot). l.there) c.take_over_first-none.ensures.lc) ∙ c.if-not-self.false in
    let six = ap jobs_of there in
    omega (arith, c.take_over_first-none.ensures.count, c.requires.manned, six)

pub returns-clause-over : goal.returns-clause-over
returns-clause-over c = over_beside _ _ _ _ _ c.take_over_first-none.ensures.over

pub returns-clause-lc : goal.returns-clause-lc
returns-clause-lc c = λ there.
    let first = c.take_over_first-none.ensures in
    let from = c.take_over.ensures.from in
    (from.0, sym (first.last from.0) ∙ from.1, (from.2 ∙ ap (λ (l : LcSlot). next_of from.0.stays from.0.lc.value l.slot.state.value) first.lc, from.3))

pub returns-clause-away : goal.returns-clause-away
returns-clause-away c = λ away. not_both _ (sym (ap (λ (l : LcSlot). l.there) c.take_over_first-none.ensures.lc) ∙ c.if-not-self.false) away

pub returns-clause-none : goal.returns-clause-none
returns-clause-none c = λ nothing.
    let both = and_parts c.take_over_first-none.result c.take_over.result nothing in
    let first = c.take_over_first-none.new.self in
    let here = ap (λ (l : LcSlot). l.slot.out.items) c.take_over_first-none.ensures.lc ∙ c.requires.clear.lc in
    subst (λ (items : List Out). joined (first.hs.out.items ∷ first.cs.out.items ∷ first.sc.out.items ∷ first.mm.out.items ∷ first.md.out.items ∷ items ∷ []) ≡ []) (here ∙ sym (c.take_over.ensures.none both.1)) (c.take_over_first-none.ensures.none both.0)
