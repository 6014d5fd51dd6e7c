use Rattle.rehearsal.specs.Promise.{shelf_use}
use Rattle.ground_runs.specs.KeptLogs.{staged}
use Rattle.ground_runs.proofs.LogLemmas.{alone_written}
use Rattle.ground_runs.proofs.rehearsals.run_drill.Goals as goal

pub returns-clause-log : goal.returns-clause-log
returns-clause-log g c = λ writes.
    let what = staged c.args.what.words (shelf_use g.S.Shelf.told g.S.Shelf.is_open g.S.Shelf.faults g.S.Shelf.mark c.args.what.shelf) in
    alone_written what g.O.Sink.held g.O.Sink.faults c.args.out c.rehearse_on.new.out c.end_drill-status.result
    c.in-Ok.report c.rehearse_on.new.shelf (c.end_drill-status.ensures.status writes) writes c.in-Ok.ensures
