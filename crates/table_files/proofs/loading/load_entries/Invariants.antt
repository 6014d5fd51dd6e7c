use Rattle.std.proofs.Common.{◌≡◌, ◌+◌, length, take, drop, map}
use Rattle.std.specs.List.{range_with_len}
use Rattle.table_files.specs.Entries.{first_fault, entries_in}
use Rattle.table_files.proofs.loading.load_entries.Given as goal

-- the entries so far are those of the payload, and none of them has a fault
abbrev pub invariant-loop-i : goal.invariant-loop-i
invariant-loop-i g l = record {
  whole : length l.entries ≡ g.E.Entry.ENTRIES;
  read : take l.i l.entries ≡ map (g.E.Entry.entry_at l.payload) (range_with_len 0 l.i);
  faultless : first_fault g.E.Entry.reason_of 1 (entries_in g.E.Entry.entry_at g.E.Entry.ENTRIES l.payload) ≡ first_fault g.E.Entry.reason_of (l.i + 1) (drop l.i (entries_in g.E.Entry.entry_at g.E.Entry.ENTRIES l.payload));
}
