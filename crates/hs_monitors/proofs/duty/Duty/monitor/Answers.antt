use Rattle.hs_monitors.proofs.duty.Duty.monitor.Goals as goal

pub returns-then-not-on-clause-kept : goal.returns-then-not-on-clause-kept
returns-then-not-on-clause-kept c = λ checks stood. rw c.if-not-on.true stood

pub returns-clause-kept : goal.returns-clause-kept
returns-clause-kept c = λ checks stood. rw c.if-not-on.false c.begun-self.ensures
