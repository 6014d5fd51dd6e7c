use Rattle.std.proofs.Common.{◌≡◌, List, ◌++◌}
use Rattle.table_files.specs.declared.fault.EntryFault.{EntryFault}
use Rattle.ground_faults.proofs.entry_faults.clear_more.Given as goal

-- faults were added
abbrev pub invariant-faults : goal.invariant-faults
invariant-faults l = (more : List EntryFault) × (l.faults.items ≡ l.fn.faults.items ++ more)
