use Rattle.std.proofs.Common.{refl, sym, ◌∙◌, true, false}
use Rattle.cs_slices.specs.Histories.{tables_after}
use Rattle.cs_slices.specs.State.{Stands}
use Rattle.cs_slices.proofs.Taking.{idle_is, stands_asleep, items_asleep}
use Rattle.cs_slices.proofs.state.Cs.is_idle.Goals as goal

pub returns-then-is_empty-clause-exact : goal.returns-then-is_empty-clause-exact
unfolding Stands
returns-then-is_empty-clause-exact c = λ tables history stood.
    idle_is tables history c.args.commands.now true _ (sym c.if-is_empty.true ∙ c.is_empty.ensures) (c.any_takes_part.ensures (tables_after tables history) _ stood.duty.switches)

pub returns-then-is_empty-clause-stands : goal.returns-then-is_empty-clause-stands
unfolding Stands
returns-then-is_empty-clause-stands c = λ tables history input idle is stood.
    stands_asleep tables history input c.args.commands.now true c.any_takes_part.result idle (sym c.if-is_empty.true ∙ c.is_empty.ensures) (c.any_takes_part.ensures (tables_after tables history) _ stood.duty.switches) is c.args.self.now stood

pub returns-then-is_empty-clause-items : goal.returns-then-is_empty-clause-items
unfolding Stands
returns-then-is_empty-clause-items c = λ tables history input idle is stood.
    items_asleep tables history input c.args.commands.now true c.any_takes_part.result idle (sym c.if-is_empty.true ∙ c.is_empty.ensures) (c.any_takes_part.ensures (tables_after tables history) _ stood.duty.switches) is

pub returns-else-is_empty-clause-exact : goal.returns-else-is_empty-clause-exact
returns-else-is_empty-clause-exact c = λ tables history stood.
    c.if-is_empty.false ∙ idle_is tables history c.args.commands.now false _ (sym c.if-is_empty.false ∙ c.is_empty.ensures) refl
