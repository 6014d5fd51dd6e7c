use Rattle.std.proofs.Common.{List, Option, option_map, ap, subst, ◌∙◌}
use Rattle.ground_files.specs.Workspaces.{Held, files_of}
use Rattle.ground_books.specs.Built.{Built}
use Rattle.ground_books.specs.Placed.{Puts}
use Rattle.ground_books.proofs.PlacedLemmas.{puts_failed, puts_nothing}
use Rattle.ground_books.proofs.building.write_files.Goals as goal

pub returns-in-Ok-clause-puts : goal.returns-in-Ok-clause-puts
returns-in-Ok-clause-puts g c = λ before told.
    subst (λ (files : List Built). Puts files c.keep_files.result before (g.W.Workspace.held c.keep_files.new.workspace)) c.write_drafts.ensures.same
    (c.keep_files.ensures.puts before (c.write_drafts.ensures.held ∙ told) (c.in-Ok.ensures.drafted before told))

pub returns-in-Err-clause-puts : goal.returns-in-Err-clause-puts
returns-in-Err-clause-puts g c = λ before told.
    puts_failed _ c.give_up.result before (g.W.Workspace.held c.write_drafts.new.workspace) (g.W.Workspace.held c.give_up.new.workspace) c.give_up.ensures.status
    (puts_nothing _ before _ (ap (λ (o : Option Held). option_map files_of o) (c.write_drafts.ensures.held ∙ told))) c.give_up.ensures.kept
