use Rattle.std.proofs.Common.{◌≡◌, ◌≤◌, ◌+◌, length, take, Some, option_map}
use Rattle.ground_files.specs.Workspaces.{Held}
use Rattle.ground_checks.specs.Checked.{names_of, Looked}
use Rattle.ground_checks.proofs.checking.look_at_files.Given as goal

abbrev pub invariant-files : goal.invariant-files
invariant-files g l = record {
  looked : (before : Held) → g.W.Workspace.held l.initial.workspace ≡ Some before
      → Looked (option_map (λ known. known.now) l.map) l.fn.first l.status (names_of (take l.file-index l.files)) before (g.W.Workspace.held l.workspace);
  seen : length l.seen.items ≤ length l.fn.seen.items + l.file-index;
}
