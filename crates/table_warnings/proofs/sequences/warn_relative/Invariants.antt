use Rattle.std.proofs.Common.{◌≡◌, ◌++◌, map}
use Rattle.std.specs.Prelude.{flat_map}
use Rattle.std.specs.List.{range_with_len}
use Rattle.sc_tables.specs.Sequences.{relative_commands}
use Rattle.table_warnings.specs.Warned.{time_at, relative_at}
use Rattle.table_warnings.proofs.WarnedLemmas.{time_before}
use Rattle.table_warnings.proofs.sequences.warn_relative.Given as goal

abbrev pub invariant-loop-k : goal.invariant-loop-k
invariant-loop-k l = record {
  times : l.times.items ≡ map (time_at (relative_commands l.rts)) (range_with_len 0 l.k);
  time : l.time ≡ time_before (relative_commands l.rts) l.k;
  told : l.warnings.items ≡ l.initial.warnings.items ++ flat_map (relative_at l.n (relative_commands l.rts)) (range_with_len 0 l.k);
}
