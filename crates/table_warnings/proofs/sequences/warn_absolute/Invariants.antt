use Rattle.std.proofs.Common.{◌≡◌, ◌++◌, take}
use Rattle.std.specs.Prelude.{flat_map}
use Rattle.std.specs.List.{range_with_len}
use Rattle.sc_tables.specs.Sequences.{timed_commands}
use Rattle.table_warnings.specs.Warned.{end_in, tags_in, absolute_at}
use Rattle.table_warnings.proofs.sequences.warn_absolute.Given as goal

abbrev pub invariant-loop-k : goal.invariant-loop-k
invariant-loop-k l = record {
  times : l.times.items ≡ tags_in (take l.k (timed_commands l.ats));
  end : l.end ≡ end_in (take l.k (timed_commands l.ats));
  told : l.warnings.items ≡ l.initial.warnings.items ++ flat_map (absolute_at (timed_commands l.ats)) (range_with_len 0 l.k);
}
