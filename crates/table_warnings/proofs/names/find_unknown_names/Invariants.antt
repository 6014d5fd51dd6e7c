use Rattle.std.proofs.Common.{◌≡◌}
use Rattle.std.specs.Prelude.{filter_map}
use Rattle.std.specs.List.{range_with_len}
use Rattle.table_warnings.specs.Names.{unknown_at}
use Rattle.table_warnings.proofs.names.find_unknown_names.Given as goal

abbrev pub invariant-loop-place : goal.invariant-loop-place
invariant-loop-place l = l.warnings.items ≡ filter_map (unknown_at l.kind l.known l.payload) (range_with_len 0 l.place)
