-- The packet of a round.
use Rattle.std.specs.Prelude.{ℕ, List, [], ◌∷◌, ◌++◌, length, Option, Some, None}
use Rattle.packet_forms.specs.MessageIds.{md_dwell}
use Rattle.packet_forms.specs.Numbers.{be16_bytes}
use Rattle.packet_forms.specs.Built.{telemetry_of}
use Rattle.bus_pipes.specs.declared.names.Out.{Out}
use Rattle.bus_pipes.specs.declared.names.Out.TheVariants.{Made}

-- The packet with the bytes of a round of table n: n, the number of bytes, the bytes.
unfoldable pub dwell_packet : ℕ → ℕ → List ℕ → List ℕ
dwell_packet time n bytes = telemetry_of (md_dwell n) time (be16_bytes n ++ be16_bytes (length bytes) ++ bytes)

-- What a table gives in a wakeup: the packet of the round that ended, where one did.
abbrev pub dwell_items : ℕ → ℕ → Option (List ℕ) → List Out
dwell_items time n None = []
dwell_items time n (Some bytes) = Made (dwell_packet time n bytes) ∷ []
