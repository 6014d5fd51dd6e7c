use Rattle.hs_monitors.specs.Monitors.{row_at}
use Rattle.hs_monitors.proofs.Performing.{entry_cycles}
use Rattle.hs_monitors.proofs.Passing.{over_stands}
use Rattle.hs_monitors.proofs.kept.renew.Goals as goal

pub returns-then-watched-eq0-clause-stands : goal.returns-then-watched-eq0-clause-stands
returns-then-watched-eq0-clause-stands c = λ checks e is far stood.
    over_stands e checks c.args.counters.now c.args.watched c.args.passed (entry_cycles (row_at c.args.apps.now c.args.place) e is) stood c.if-watched-eq0.true
