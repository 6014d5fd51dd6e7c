use Rattle.std.proofs.Common.{◌≡◌, ℕ, List, map, take, Some, Bor}
use Rattle.std.specs.Prelude.{option_map}
use Rattle.ground_files.specs.declared.verb_status.Status.TheVariants as statuses
use Rattle.ground_files.specs.Workspaces.{Held, inputs_taken}
use Rattle.ground_making.specs.Causes.{IsCaused}
use Rattle.ground_making.specs.ShownFiles.{ShowsAll, RefusesOne}
use Rattle.ground_making.proofs.shown_files.push_files.Given as goal

-- the files so far
abbrev pub invariant-files : goal.invariant-files
invariant-files g l = record {
  held : g.W.Workspace.held l.workspace
      ≡ option_map (inputs_taken (map (λ (file : Bor (List ℕ)). file.now) (take l.file-index l.shown.files.now))) (g.W.Workspace.held l.fn.workspace);
  texts : l.status ≡ statuses.Done → (before : Held) → g.W.Workspace.held l.fn.workspace ≡ Some before
      → ShowsAll l.shown before l.fn.out.items (map (λ (file : Bor (List ℕ)). file.now) (take l.file-index l.shown.files.now)) l.out.items;
  cause : (before : Held) → g.W.Workspace.held l.fn.workspace ≡ Some before
      → IsCaused ⊥ (RefusesOne l.shown before (map (λ (file : Bor (List ℕ)). file.now) (take l.file-index l.shown.files.now))) l.status;
}
