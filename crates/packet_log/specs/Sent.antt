-- Items as they are sent.
use Rattle.std.specs.Prelude.{ℕ, List, [], ◌∷◌}
use Rattle.bus_pipes.specs.declared.names.Out.{Out}
use Rattle.bus_pipes.specs.declared.names.Out.TheVariants.{Made, Stored, Reset, Restart, Delete}
use Rattle.packet_log.specs.Counts.{stamped}

-- the packets that an item makes
abbrev pub makes : Out → List (List ℕ)
makes (Made p) = p ∷ []
makes (Stored p) = []
makes Reset = []
makes (Restart name) = []
makes (Delete name) = []

-- an item as it is sent behind the packets that were made before: what was made gets its sequence count
abbrev pub as_sent : List (List ℕ) → Out → Out
as_sent made (Made p) = Made (stamped made p)
as_sent made (Stored p) = Stored p
as_sent made Reset = Reset
as_sent made (Restart name) = Restart name
as_sent made (Delete name) = Delete name
