use Rattle.hs_actions.proofs.Series.{performs_none, performs_same}
use Rattle.hs_monitors.proofs.Performing.{packet_ignored, packet_heard}
use Rattle.std.proofs.Common.{sym, ◌∙◌}
use Rattle.hs_monitors.proofs.events.hear.Goals as goal

pub returns-then-not-is_event-clause-performs : goal.returns-then-not-is_event-clause-performs
returns-then-not-is_event-clause-performs c = λ stood.
    performs_none c.args.tables.now.acts c.args.now _ c.args.actions.now c.args.out.now (λ k. packet_ignored k c.args.tables.now.events c.args.packet.now (sym c.is_event.ensures ∙ c.if-not-is_event.true))

pub returns-clause-performs : goal.returns-clause-performs
returns-clause-performs c = λ stood.
    performs_same c.args.tables.now.acts c.args.now _ _ c.args.actions.now c.compare_all.new.actions c.args.out.now c.compare_all.new.out
    (λ k. packet_heard k c.args.tables.now.events c.args.packet.now (sym c.is_event.ensures ∙ c.if-not-is_event.false)) (c.compare_all.ensures.performs stood)
