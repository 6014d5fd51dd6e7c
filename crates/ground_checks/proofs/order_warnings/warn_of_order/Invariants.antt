use Rattle.std.proofs.Common.{◌≡◌}
use Rattle.ground_checks.proofs.order_warnings.warn_of_order.Given as goal

abbrev pub invariant-files : goal.invariant-files
invariant-files g l = g.W.Workspace.held l.workspace ≡ g.W.Workspace.held l.initial.workspace
