use Rattle.std.proofs.Common.{◌≡◌, ◌++◌}
use Rattle.std.specs.Prelude.{filter_map}
use Rattle.std.specs.List.{range_with_len}
use Rattle.table_warnings.specs.Warned.{unwatched_at}
use Rattle.table_warnings.proofs.finding.warn_unwatched.Given as goal

abbrev pub invariant-loop-place : goal.invariant-loop-place
invariant-loop-place l = l.warnings.items ≡ l.initial.warnings.items ++ filter_map (unwatched_at l.payload) (range_with_len 0 l.place)
