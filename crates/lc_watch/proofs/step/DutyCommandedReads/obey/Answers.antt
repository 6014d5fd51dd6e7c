use Rattle.std.proofs.Common.{sym}
use Rattle.bus_pipes.proofs.Deliveries.{adding_none}
use Rattle.lc_watch.proofs.step.DutyCommandedReads.obey.Goals as goal

pub returns-clause-stands : goal.returns-clause-stands
returns-clause-stands c = λ turn orders belongs stood. c.obey.ensures turn.setup turn.history orders stood

pub returns-clause-items : goal.returns-clause-items
returns-clause-items c = λ turn orders belongs stood. sym (adding_none c.args.out.now)
