use Rattle.std.proofs.Common.{◌≡◌, take, map, Some}
use Rattle.std.specs.List.{AllByRecursion}
use Rattle.ground_files.specs.Workspaces.{Held}
use Rattle.ground_books.specs.Placed.{written_as, IsDrafted}
use Rattle.ground_books.proofs.building.write_drafts.Given as goal

abbrev pub invariant-files : goal.invariant-files
invariant-files g l = record {
  held : g.W.Workspace.held l.workspace ≡ g.W.Workspace.held l.initial.workspace;
  same : map written_as l.files ≡ map written_as l.initial.files;
  drafted : (before : Held) → g.W.Workspace.held l.initial.workspace ≡ Some before → AllByRecursion (IsDrafted g.W.Draft.Write.contents) (take l.place l.files);
}
