use Rattle.std.proofs.Common.{refl}
use Rattle.ground_books.proofs.PlacedLemmas.{puts_done, puts_failed}
use Rattle.ground_books.proofs.building.keep_files.Goals as goal

pub returns-in-Ok-clause-puts : goal.returns-in-Ok-clause-puts
returns-in-Ok-clause-puts g c = λ before told drafted. puts_done _ _ before _ refl (c.in-Ok.ensures.put before told drafted)

pub returns-in-Err-clause-puts : goal.returns-in-Err-clause-puts
returns-in-Err-clause-puts g c = λ before told drafted.
    puts_failed _ c.give_up.result before (g.W.Workspace.held c.keep_drafts.new.workspace) (g.W.Workspace.held c.give_up.new.workspace) c.give_up.ensures.status (c.in-Err.ensures.some before told drafted) c.give_up.ensures.kept
