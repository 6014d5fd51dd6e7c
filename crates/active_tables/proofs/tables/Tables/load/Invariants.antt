use Rattle.std.proofs.Common.{◌≡◌, ◌+◌, ◌≤◌, length, drop, option_map}
use Rattle.std.specs.Prelude.{IfSome}
use Rattle.active_tables.specs.Tables.{tables_of, first_said, entry_fault_in, fault_at}
use Rattle.active_tables.proofs.tables.Tables.load.Given as goal

-- the tables of the files behind those that are left, and the first fault that they have
abbrev pub invariant-files : goal.invariant-files
invariant-files l = record {
  named : l.tables.files ≡ l.files;
  tables : l.tables.set ≡ tables_of (drop l.left l.files);
  found : l.found ≡ option_map fault_at (first_said entry_fault_in (l.left + 1) (drop l.left l.files));
  small : IfSome l.found (λ fault. fault.reason ≤ 5);
  within : l.left ≤ length l.files;
}

abbrev pub decreases-files : goal.decreases-files
decreases-files l = l.left
