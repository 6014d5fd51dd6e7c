use Rattle.std.proofs.Common.{◌≡◌, map, take}
use Rattle.ground_checks.specs.declared.finding.FoundFault.TheVariants as faults
use Rattle.ground_checks.proofs.finding.as_found.Given as goal

abbrev pub invariant-loop-fault : goal.invariant-loop-fault
invariant-loop-fault l = l.found.items ≡ map (λ fault. faults.Entry fault) (take l.fault-index l.entries)
