use Rattle.std.proofs.Common.{◌≡◌, length}
use Rattle.app_suite.specs.declared.left.Left.{Left}
use Rattle.app_suite.specs.declared.wakeups.Wakeup.{Wakeup}
use Rattle.app_suite.specs.Jobs.{Leaves}
use Rattle.app_suite.proofs.Choosing.{Settled}
use Rattle.app_suite.proofs.busy.settle_all.Given as goal

abbrev pub invariant-loop-job : goal.invariant-loop-job
invariant-loop-job l = record {
  jobs : l.crew.jobs ≡ l.initial.crew.jobs;
  results : length l.crew.results ≡ length l.initial.crew.results;
  settled : Settled (λ (w : Wakeup) (left : Left). Leaves w.1 w.0.now left) l.jobs l.job l.busy.items l.crew.results;
}
