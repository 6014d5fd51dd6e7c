use Rattle.std.proofs.Common.{sym, ◌∙◌}
use Rattle.lc_watch.specs.Histories.{setup_of}
use Rattle.lc_watch.specs.State.{Stands}
use Rattle.lc_watch.proofs.Both.{off_by_not}
use Rattle.lc_watch.proofs.Idling.{idle_by, not_idle, none_taken, idle_stands, idle_items}
use Rattle.lc_watch.proofs.state.Lc.is_idle.Goals as goal

pub returns-then-not-are_none-clause-exact : goal.returns-then-not-are_none-clause-exact
returns-then-not-are_none-clause-exact c = λ watch actions history stood. not_idle actions c.args.commands.now c.args.telemetry.now (sym c.are_none.ensures ∙ c.if-not-are_none.true)

pub returns-clause-exact : goal.returns-clause-exact
unfolding Stands
returns-clause-exact c = λ watch actions history stood.
    idle_by actions c.args.commands.now c.args.telemetry.now c.args.self.now.uses (sym c.are_none.ensures ∙ c.if-not-are_none.false) stood.uses

pub returns-clause-stands : goal.returns-clause-stands
unfolding Stands
returns-clause-stands c = λ watch actions history input idle commands telemetry stood.
    let none = none_taken c.args.commands.now c.args.telemetry.now (sym c.are_none.ensures ∙ c.if-not-are_none.false) in
    idle_stands (setup_of watch actions) history input (sym stood.uses ∙ off_by_not c.args.self.now.uses idle) (commands ∙ none.0) c.args.self.now (telemetry ∙ none.1) stood

pub returns-clause-items : goal.returns-clause-items
unfolding Stands
returns-clause-items c = λ watch actions history input idle commands telemetry stood.
    let none = none_taken c.args.commands.now c.args.telemetry.now (sym c.are_none.ensures ∙ c.if-not-are_none.false) in
    idle_items (setup_of watch actions) history input (sym stood.uses ∙ off_by_not c.args.self.now.uses idle) (commands ∙ none.0)
