use Rattle.std.proofs.Common.{ap}
use Rattle.std.specs.Prelude.{option_map}
use Rattle.rehearsal.specs.Promise.{shelf_use}
use Rattle.ground_files.specs.Workspaces.{files_of}
use Rattle.ground_runs.specs.KeptLogs.{staged}
use Rattle.ground_runs.proofs.SettlingLemmas.{ends_early}
use Rattle.ground_runs.proofs.running.run_rehearsal.Goals as goal

pub returns-in-Some : goal.returns-in-Some
returns-in-Some g c = λ before holds.
    let what = staged c.args.what.words (shelf_use g.S.Shelf.told g.S.Shelf.is_open g.S.Shelf.faults g.S.Shelf.mark c.args.what.shelf) in
    ends_early what c.args.run.now c.in-Some.status before (g.W.Workspace.held c.args.workspace.now) (c.in-Some.ensures.early before holds) (ap (option_map files_of) holds)
