use Rattle.std.proofs.Common.{Bool, [], ◌∷◌, ◌++◌, cond, ap}
use Rattle.std.specs.List.{flat_map}
use Rattle.hs_actions.proofs.Series.{performs_none}
use Rattle.hs_monitors.specs.Monitors.{app_attempt}
use Rattle.hs_monitors.proofs.duty.Duty.check_apps.Goals as goal

pub returns-then-not-self-clause-kept : goal.returns-then-not-self-clause-kept
returns-then-not-self-clause-kept c = λ checks places stood. rw c.if-not-self.true stood

pub returns-then-not-self-clause-performs : goal.returns-then-not-self-clause-performs
returns-then-not-self-clause-performs c = λ checks places stood.
    performs_none c.args.tables.now.acts c.args.now _ c.args.self.now.actions c.args.out.now
    (λ k. ap (λ (b : Bool). cond b (flat_map (app_attempt k (checks ++ c.args.counters.now ∷ [])) c.args.tables.now.apps) []) c.if-not-self.true)

pub returns-clause-kept : goal.returns-clause-kept
returns-clause-kept c = λ checks places stood. rw c.if-not-self.false (c.check.ensures.stands checks places stood)

pub returns-clause-performs : goal.returns-clause-performs
returns-clause-performs c = λ checks places stood. rw c.if-not-self.false (c.check.ensures.performs checks places stood)
