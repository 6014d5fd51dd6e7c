use Rattle.ground_books.specs.Placed.{KeepsFilesOnly}
use Rattle.ground_books.proofs.building.drop_drafts.Given as goal

abbrev pub invariant-files : goal.invariant-files
invariant-files g l = KeepsFilesOnly (g.W.Workspace.held l.initial.workspace) (g.W.Workspace.held l.workspace)
