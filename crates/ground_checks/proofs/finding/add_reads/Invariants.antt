use Rattle.std.proofs.Common.{◌≡◌, ◌++◌, map, take}
use Rattle.ground_checks.specs.declared.finding.FoundFault.TheVariants as faults
use Rattle.ground_checks.proofs.finding.add_reads.Given as goal

abbrev pub invariant-loop-entry : goal.invariant-loop-entry
invariant-loop-entry l = l.found.items ≡ l.fn.found.items ++ map (λ entry. faults.Read entry) (take l.entry-index l.entries)
