use Rattle.std.proofs.Common.{sym, ◌∙◌}
use Rattle.hs_monitors.specs.State.{Stands}
use Rattle.hs_monitors.proofs.Idling.{quiet_parts, idle_whole, not_idle, idle_stands, idle_items}
use Rattle.hs_monitors.proofs.state.Hs.is_idle.Goals as goal

pub returns-then-not-is_quiet-clause-exact : goal.returns-then-not-is_quiet-clause-exact
returns-then-not-is_quiet-clause-exact c = λ setup history stood. not_idle setup history c.args.input.now.commands.now c.args.input.now.events.now (sym c.if-not-is_quiet.true ∙ c.is_quiet.ensures)

pub returns-clause-exact : goal.returns-clause-exact
unfolding Stands
returns-clause-exact c = λ setup history stood.
    idle_whole setup history c.args.input.now.commands.now c.args.input.now.events.now c.are_idle.result (sym c.if-not-is_quiet.false ∙ c.is_quiet.ensures) (c.are_idle.ensures setup history stood.duty)

pub returns-clause-stands : goal.returns-clause-stands
unfolding Stands
returns-clause-stands c = λ setup history i idle commands events stood.
    let exact = idle_whole setup history c.args.input.now.commands.now c.args.input.now.events.now c.are_idle.result (sym c.if-not-is_quiet.false ∙ c.is_quiet.ensures) (c.are_idle.ensures setup history stood.duty) in
    let parts = quiet_parts setup history c.args.input.now.commands.now c.args.input.now.events.now (sym exact ∙ idle) in
    idle_stands setup history i (commands ∙ parts.0) (events ∙ parts.1) parts.2 c.args.self.now stood

pub returns-clause-items : goal.returns-clause-items
unfolding Stands
returns-clause-items c = λ setup history i idle commands events stood.
    let exact = idle_whole setup history c.args.input.now.commands.now c.args.input.now.events.now c.are_idle.result (sym c.if-not-is_quiet.false ∙ c.is_quiet.ensures) (c.are_idle.ensures setup history stood.duty) in
    let parts = quiet_parts setup history c.args.input.now.commands.now c.args.input.now.events.now (sym exact ∙ idle) in
    idle_items setup history i (commands ∙ parts.0) (events ∙ parts.1) parts.2
