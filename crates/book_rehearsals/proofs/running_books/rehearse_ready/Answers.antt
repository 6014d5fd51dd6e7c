use Rattle.ground_runs.specs.KeptLogs.{staged}
use Rattle.ground_runs.specs.EpochLaws.{ends_at_epoch}
use Rattle.book_rehearsals.specs.LeftByBooks.{memory_use}
use Rattle.book_rehearsals.proofs.LeftLemmas.{all_kept, without_memory}
use Rattle.book_rehearsals.proofs.running_books.rehearse_ready.Goals as goal

pub returns-in_default : goal.returns-in_default
returns-in_default g c = λ before holds.
    let held = g.W.Workspace.held c.args.workspace.now in
    without_memory (staged c.args.ready.words (memory_use c.args.ready.shelved.shelf)) c.args.run.now c.tell_no_memory.result before held c.tell_no_memory.ensures (all_kept before held holds)

pub returns : goal.returns
returns g c = λ before holds.
    ends_at_epoch (staged c.args.ready.words (memory_use c.args.ready.shelved.shelf)) _ c.args.run.now c.run_rehearsal.result before (g.W.Workspace.held c.run_rehearsal.new.workspace) (c.run_rehearsal.ensures before holds)
