use Rattle.timed_plans.proofs.CheckLemmas.{Feeding, work}
use Rattle.ground_checks.proofs.scenario_names.read_names.Given as goal

abbrev pub invariant-items : goal.invariant-items
invariant-items l = Feeding l.reader l.rest l.text

abbrev pub decreases-items : goal.decreases-items
decreases-items l = work l.reader l.rest
