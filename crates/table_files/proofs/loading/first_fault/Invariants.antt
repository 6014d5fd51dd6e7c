use Rattle.std.proofs.Common.{◌≡◌, ◌+◌, drop}
use Rattle.table_files.specs.Entries.{first_fault, entries_in}
use Rattle.table_files.proofs.loading.first_fault.Given as goal

-- none of the entries so far has a fault
abbrev pub invariant-loop-i : goal.invariant-loop-i
invariant-loop-i g l = first_fault g.E.Entry.reason_of 1 (entries_in g.E.Entry.entry_at g.E.Entry.ENTRIES l.payload) ≡ first_fault g.E.Entry.reason_of (l.i + 1) (drop l.i (entries_in g.E.Entry.entry_at g.E.Entry.ENTRIES l.payload))
