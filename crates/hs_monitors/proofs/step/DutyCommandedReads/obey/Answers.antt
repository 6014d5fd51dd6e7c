use Rattle.std.proofs.Common.{ap, sym}
use Rattle.hs_tables.specs.declared.tables.HsTables.{HsTables}
use Rattle.bus_pipes.proofs.Deliveries.{adding_none}
use Rattle.hs_monitors.proofs.step.DutyCommandedReads.obey.Goals as goal

pub returns-clause-stands : goal.returns-clause-stands
returns-clause-stands c = λ turn orders belongs stood. c.obey.ensures turn.setup turn.history orders (ap (λ (t : HsTables). t.apps) belongs.0) stood

pub returns-clause-items : goal.returns-clause-items
returns-clause-items c = λ turn orders belongs stood. sym (adding_none c.args.out.now)
