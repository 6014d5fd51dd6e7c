use Rattle.std.proofs.Common.{◌≡◌, take, drop, map, Some}
use Rattle.std.specs.List.{AllByRecursion}
use Rattle.ground_files.specs.Workspaces.{Held}
use Rattle.ground_books.specs.Placed.{written_as, put_all, IsDrafted}
use Rattle.ground_books.proofs.building.keep_drafts.Given as goal

abbrev pub invariant-files : goal.invariant-files
invariant-files g l = record {
  rest : drop l.place l.files ≡ drop l.place l.initial.files;
  put : (before : Held) → g.W.Workspace.held l.initial.workspace ≡ Some before → AllByRecursion (IsDrafted g.W.Draft.Write.contents) l.initial.files
      → g.W.Workspace.held l.workspace ≡ Some (put_all (map written_as (take l.place l.initial.files)) before);
}
