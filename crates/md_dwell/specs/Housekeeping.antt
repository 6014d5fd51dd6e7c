-- What the tables of MD have come to, and its housekeeping.
use Rattle.std.specs.Prelude.{ℕ, Bool, ◌&&◌, nat_lt, List, [], ◌∷◌, ◌++◌, map}
use Rattle.std.specs.List.{range_with_len}
use Rattle.histories.specs.Masks.{bits_of}
use Rattle.packet_forms.specs.MessageIds.{md_housekeeping}
use Rattle.packet_forms.specs.Built.{telemetry_of}
use Rattle.bus_pipes.specs.declared.names.Counts.{Counts}
use Rattle.md_dwell.specs.Tables.{DwellTable}
use Rattle.md_dwell.specs.Lists.{list_of, delays}
use Rattle.md_dwell.specs.Orders.{entries_after, is_on_after}
use Rattle.md_dwell.specs.Histories.{MdEntry, table_after, orders_since}
use Rattle.md_dwell.specs.declared.tables.DwellEntry.{DwellEntry}
use Rattle.md_dwell.specs.declared.instructions.Instruction.{Instruction}

-- The entries of table n behind these entries of a history, and what was ordered in the next wakeup so far.
abbrev pub entries_now : List DwellTable → List MdEntry → List Instruction → ℕ → List DwellEntry
entries_now tables history orders n = entries_after n (table_after tables history n).entries (orders_since n history ++ orders)

-- Whether table n is enabled behind these entries, and what was ordered in the next wakeup so far.
abbrev pub is_on : List DwellTable → List MdEntry → List Instruction → ℕ → Bool
is_on tables history orders n = is_on_after n (table_after tables history n).enabled (orders_since n history ++ orders)

-- Whether table n is enabled behind these entries and its list has a delay.
abbrev pub dwells : List DwellTable → List MdEntry → ℕ → Bool
dwells tables history n = is_on tables history [] n && nat_lt 0 (delays (list_of (entries_now tables history [] n)))

-- The enabled tables: bit n - 1 is table n.
unfoldable pub enabled_bits : List DwellTable → List MdEntry → List Instruction → ℕ
enabled_bits tables history orders = bits_of (map (is_on tables history orders) (range_with_len 1 4))

-- The housekeeping packet: both counts, and the enabled tables.
unfoldable pub housekeeping_of : ℕ → Counts → ℕ → List ℕ
housekeeping_of time counts enabled = telemetry_of md_housekeeping time (counts.accepted ∷ counts.errors ∷ enabled ∷ 0 ∷ [])
