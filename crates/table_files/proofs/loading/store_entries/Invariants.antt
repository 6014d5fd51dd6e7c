use Rattle.std.proofs.Common.{◌≡◌, length, take, map}
use Rattle.std.specs.List.{range_with_len}
use Rattle.table_files.proofs.loading.store_entries.Given as goal

-- the entries so far are those of the payload
abbrev pub invariant-loop-i : goal.invariant-loop-i
invariant-loop-i g l = record {
  whole : length l.places ≡ g.E.Entry.ENTRIES;
  read : take l.i l.places ≡ map (g.E.Entry.entry_at l.payload) (range_with_len 0 l.i);
}
