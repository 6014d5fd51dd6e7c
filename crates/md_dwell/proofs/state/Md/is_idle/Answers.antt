use Rattle.std.proofs.Common.{refl, sym, ◌∙◌, true, false}
use Rattle.md_dwell.specs.State.{Stands}
use Rattle.md_dwell.proofs.Idling.{idle_is, stands_asleep, items_asleep}
use Rattle.md_dwell.proofs.state.Md.is_idle.Goals as goal

pub returns-then-is_empty-clause-exact : goal.returns-then-is_empty-clause-exact
unfolding Stands
returns-then-is_empty-clause-exact c = λ tables history stood. idle_is tables history c.args.commands.now true c.dwell.result c.args.self.now.duty stood.duty (sym c.if-is_empty.true ∙ c.is_empty.ensures) c.dwell.ensures

pub returns-then-is_empty-clause-stands : goal.returns-then-is_empty-clause-stands
returns-then-is_empty-clause-stands c = λ tables history input idle is stood.
    stands_asleep tables history input c.args.commands.now true c.dwell.result c.args.self.now idle (sym c.if-is_empty.true ∙ c.is_empty.ensures) c.dwell.ensures is stood

pub returns-then-is_empty-clause-items : goal.returns-then-is_empty-clause-items
returns-then-is_empty-clause-items c = λ tables history input idle is stood.
    items_asleep tables history input c.args.commands.now true c.dwell.result c.args.self.now idle (sym c.if-is_empty.true ∙ c.is_empty.ensures) c.dwell.ensures is stood

pub returns-else-is_empty-clause-exact : goal.returns-else-is_empty-clause-exact
unfolding Stands
returns-else-is_empty-clause-exact c = λ tables history stood.
    c.if-is_empty.false ∙ idle_is tables history c.args.commands.now false _ c.args.self.now.duty stood.duty (sym c.if-is_empty.false ∙ c.is_empty.ensures) refl
