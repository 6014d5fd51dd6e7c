use Rattle.std.proofs.Common.{◌≡◌}
use Rattle.ground_runs.proofs.given_files.given_files.Given as goal

abbrev pub invariant-loop-path : goal.invariant-loop-path
invariant-loop-path g l = g.W.Workspace.held l.workspace ≡ g.W.Workspace.held l.fn.workspace
