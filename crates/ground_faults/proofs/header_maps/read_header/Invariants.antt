use Rattle.timed_plans.proofs.CheckLemmas.{work}
use Rattle.ground_faults.proofs.HeaderMapLemmas.{Heading}
use Rattle.ground_faults.proofs.header_maps.read_header.Given as goal

abbrev pub invariant-items : goal.invariant-items
invariant-items l = Heading l.reader l.rest l.text

abbrev pub decreases-items : goal.decreases-items
decreases-items l = work l.reader l.rest
