use Rattle.std.proofs.Common.{Bool, [], cond, ap}
use Rattle.std.specs.List.{flat_map}
use Rattle.hs_actions.proofs.Series.{performs_none}
use Rattle.hs_monitors.specs.Events.{event_attempts}
use Rattle.hs_monitors.proofs.duty.Duty.hear_events.Goals as goal

pub returns-then-not-self-clause-performs : goal.returns-then-not-self-clause-performs
returns-then-not-self-clause-performs c = λ stood.
    performs_none c.args.tables.now.acts c.args.now _ c.args.self.now.actions c.args.out.now
    (λ k. ap (λ (b : Bool). cond b (flat_map (event_attempts k c.args.tables.now.events) c.args.events.now) []) c.if-not-self.true)
