use Rattle.hs_monitors.proofs.duty.Duty.shown.Goals as goal

pub returns-clause-watching : goal.returns-clause-watching
returns-clause-watching c = λ checks stood. c.watching_bits.ensures checks (c.settled.ensures c.args.apps.now checks stood)
