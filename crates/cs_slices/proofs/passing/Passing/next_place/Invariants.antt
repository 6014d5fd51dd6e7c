use Rattle.std.proofs.Common.{◌≡◌, List, drop}
use Rattle.std.specs.Prelude.{find}
use Rattle.cs_slices.specs.Tables.{TablePair}
use Rattle.cs_slices.specs.Happenings.{Happening}
use Rattle.cs_slices.specs.Orders.{takes_part}
use Rattle.cs_slices.specs.Slices.{ring_from}
use Rattle.cs_slices.specs.State.{SwitchesStand}
use Rattle.cs_slices.proofs.passing.Passing.next_place.Given as goal

-- none of the places so far takes part
abbrev pub invariant-loop-k : goal.invariant-loop-k
invariant-loop-k l = (tables : TablePair) (happened : List Happening) → SwitchesStand tables happened l.switches → find (takes_part tables happened) (ring_from l.self.place) ≡ find (takes_part tables happened) (drop l.k (ring_from l.self.place))
