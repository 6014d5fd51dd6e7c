use Rattle.std.proofs.Common.{◌≡◌}
use Rattle.std.specs.Prelude.{filter_map}
use Rattle.std.specs.List.{range_with_len}
use Rattle.table_warnings.specs.Ranges.{split_at}
use Rattle.table_warnings.proofs.ranges.find_in_checksums.Given as goal

abbrev pub invariant-loop-place : goal.invariant-loop-place
invariant-loop-place l = l.warnings.items ≡ filter_map (split_at l.map l.payload) (range_with_len 0 l.place)
