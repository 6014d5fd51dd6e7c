use Rattle.std.proofs.Common.{◌≡◌, ◌+◌, true, ap, subst, refl, ◌∙◌}
use Rattle.rehearsal.specs.Promise.{shelf_use}
use Rattle.ground_tools.specs.Kept.{told_while}
use Rattle.ground_runs.specs.declared.run_ends.Ending.{Ending}
use Rattle.ground_runs.specs.Endings.{is_reported}
use Rattle.ground_runs.specs.KeptLogs.{staged}
use Rattle.ground_runs.proofs.LogLemmas.{log_written, handed_on}
use Rattle.ground_runs.proofs.rehearsals.run_both.Goals as goal

pub returns-clause-log : goal.returns-clause-log
returns-clause-log g c = λ writes.
    let held = g.L.Sink.held in
    let faults = g.L.Sink.faults in
    let what = staged c.args.what.words (shelf_use g.S.Shelf.told g.S.Shelf.is_open g.S.Shelf.faults g.S.Shelf.mark c.args.what.shelf) in
    let wrote = subst (λ (e : Ending). is_reported e.status ≡ true) c.end_both-2.ensures.ending writes in
    handed_on what held faults c.args.log c.rehearse_on.new.out.log c.end_both-2.result.log _ c.end_both-2.result.ending
    (c.end_both-2.ensures.log ∙ c.end_run-status.ensures.log) c.end_both-2.ensures.ending
    (log_written what held faults c.args.log c.rehearse_on.new.out.log c.end_run-status.result c.in-Ok.report.frames
    c.in-Ok.report c.rehearse_on.new.shelf _ c.new-told.result.refusals c.rehearse_on.new.out.refusals
    (c.end_run-status.ensures.status wrote) wrote refl
    c.new-told.ensures.refusals (ap (λ l. told_while c.new-told.result.refusals (held l)) c.new-told.ensures.log) refl
    (ap (λ l. faults l + c.new-told.result.refusals) c.new-told.ensures.log) refl
    (λ is. ap (λ t. t.log) is ∙ c.new-told.ensures.log)
    c.in-Ok.ensures)
