-- MM's housekeeping.
use Rattle.std.specs.Prelude.{ℕ, Bool, false, not, List, [], ◌∷◌, map, Option, Some, None}
use Rattle.std.specs.List.{range_with_len}
use Rattle.histories.specs.Masks.{bits_of}
use Rattle.packet_forms.specs.MessageIds.{mm_housekeeping}
use Rattle.packet_forms.specs.Built.{telemetry_of}
use Rattle.bus_pipes.specs.declared.names.Counts.{Counts}
use Rattle.memory_window.specs.Memory.{Memory}
use Rattle.mm_core.specs.Reading.{protection_of}

-- Whether there is an EEPROM region with this protection, and it isn't protected.
abbrev pub is_open : Option Bool → Bool
is_open None = false
is_open (Some guarded) = not guarded

-- The regions that are open for writing: bit i - 1 for EEPROM region i that isn't protected.
unfoldable pub open_regions : Memory → ℕ
open_regions image = bits_of (map (λ region. is_open (protection_of image region)) (range_with_len 1 8))

-- The housekeeping packet: both counts, and the open regions.
unfoldable pub housekeeping_of : ℕ → Counts → Memory → List ℕ
housekeeping_of time counts image = telemetry_of mm_housekeeping time (counts.accepted ∷ counts.errors ∷ open_regions image ∷ 0 ∷ [])
