use Rattle.std.proofs.Common.{◌≡◌, List, drop, ◌||◌}
use Rattle.std.specs.List.{list_any, range_with_len}
use Rattle.cs_slices.specs.Orders.{takes_part, some_take_part}
use Rattle.cs_slices.specs.State.{SwitchesStand}
use Rattle.cs_slices.specs.Tables.{TablePair}
use Rattle.cs_slices.specs.Happenings.{Happening}
use Rattle.cs_slices.proofs.switches.Switches.any_takes_part.Given as goal

-- a place takes part where one of those so far does, or one of the rest
abbrev pub invariant-loop-place : goal.invariant-loop-place
invariant-loop-place l = (tables : TablePair) (happened : List Happening) → SwitchesStand tables happened l.self
    → some_take_part tables happened ≡ (l.any || list_any (takes_part tables happened) (drop l.place (range_with_len 0 32)))
