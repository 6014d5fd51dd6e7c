use Rattle.std.proofs.Common.{◌≡◌}
use Rattle.std.specs.Prelude.{filter_map}
use Rattle.std.specs.List.{range_with_len}
use Rattle.table_warnings.specs.Warned.{gap_at}
use Rattle.table_warnings.proofs.finding.find_all_gaps.Given as goal

abbrev pub invariant-loop-place : goal.invariant-loop-place
invariant-loop-place l = l.warnings.items ≡ filter_map (gap_at l.kind l.payload) (range_with_len 0 l.place)
