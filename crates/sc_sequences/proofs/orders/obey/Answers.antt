use Rattle.sc_sequences.specs.Sequences.{with_at, stopped}
use Rattle.sc_sequences.proofs.orders.obey.Goals as goal

pub returns-in-StopAts : goal.returns-in-StopAts
returns-in-StopAts c = λ all stood. rw c.in-StopAts.is (c.stop-in-StopAts.ensures c.args.tables.now (with_at 0 stopped all) (c.stop.ensures c.args.tables.now all stood))

pub returns-in-StopRts : goal.returns-in-StopRts
returns-in-StopRts c = λ all stood. rw c.in-StopRts.is (c.stop_rts.ensures c.args.tables.now all stood)

pub returns-in-DisableRts : goal.returns-in-DisableRts
returns-in-DisableRts c = λ all stood. rw c.in-DisableRts.is (c.allow.ensures c.args.tables.now all stood)

pub returns-in-EnableRts : goal.returns-in-EnableRts
returns-in-EnableRts c = λ all stood. rw c.in-EnableRts.is (c.allow-in-EnableRts.ensures c.args.tables.now all stood)
