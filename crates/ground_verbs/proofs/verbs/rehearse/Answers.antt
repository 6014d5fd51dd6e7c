use Rattle.std.proofs.Common.{◌∙◌, inr}
use Rattle.rehearsal.specs.Promise.{shelf_use}
use Rattle.ground_runs.specs.AskedWords.{words_of}
use Rattle.ground_runs.specs.KeptLogs.{staged}
use Rattle.ground_runs.specs.EpochLaws.{ends_at_epoch}
use Rattle.ground_verbs.proofs.verbs.rehearse.Goals as goal

pub returns : goal.returns
returns g c = λ before is.
    let run = c.args.run.now in
    let what = staged (words_of run.workers run.has_subjects run.scenario.now run.files.now) (shelf_use g.S.Shelf.told g.S.Shelf.is_open g.S.Shelf.faults g.S.Shelf.mark c.args.shelf) in
    inr (ends_at_epoch what c.unwrap_or-timed.result run c.run_scenario.result before (g.W.Workspace.held c.run_scenario.new.workspace)
    (c.run_scenario.ensures before (c.epoch_of_run.ensures.held ∙ c.warn_of_order.ensures ∙ c.names_book.ensures.held ∙ is)))
