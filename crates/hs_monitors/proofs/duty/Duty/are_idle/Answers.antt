use Rattle.std.proofs.Common.{refl, sym, ap, not, true, false, ◌∙◌}
use Rattle.hs_actions.specs.State.{is_cooling}
use Rattle.hs_monitors.specs.Attempts.{past_of}
use Rattle.hs_monitors.proofs.Idling.{idle_by}
use Rattle.hs_monitors.proofs.duty.Duty.are_idle.Goals as goal

pub returns-then-not-may_check : goal.returns-then-not-may_check
returns-then-not-may_check c = λ setup history stood.
    idle_by setup history c.args.self.now.monitoring false c.is_cooling.result c.args.self.now.places stood.monitoring stood.places (sym c.if-not-may_check.true ∙ c.may_check.ensures)
    (c.is_cooling.ensures setup.tables.acts (past_of setup history) stood.actions)

pub returns-else-not-may_check : goal.returns-else-not-may_check
returns-else-not-may_check c = λ setup history stood.
    ap not c.if-not-may_check.false
    ∙ idle_by setup history c.args.self.now.monitoring true (is_cooling setup.tables.acts (past_of setup history)) c.args.self.now.places stood.monitoring stood.places (sym c.if-not-may_check.false ∙ c.may_check.ensures) refl
