-- CS's housekeeping.
use Rattle.std.specs.Prelude.{ℕ, Bool, List, [], ◌∷◌, ◌++◌}
use Rattle.histories.specs.Masks.{bits_of}
use Rattle.packet_forms.specs.MessageIds.{cs_housekeeping}
use Rattle.packet_forms.specs.Numbers.{be16_bytes, be32_bytes}
use Rattle.packet_forms.specs.Built.{telemetry_of}
use Rattle.bus_pipes.specs.declared.names.Counts.{Counts}
use Rattle.cs_slices.specs.Orders.{is_cs_on, is_table_on}
use Rattle.cs_slices.specs.Happenings.{Happening, orders_among, slices_among}
use Rattle.cs_slices.specs.Passes.{miscompare_count, pass_count}

-- The flags: 1 CS is on, 2 the EEPROM table is, 4 the memory table is.
unfoldable pub flags_of : Bool → Bool → Bool → ℕ
flags_of cs eeprom memory = bits_of (cs ∷ eeprom ∷ memory ∷ [])

-- The housekeeping packet: both counts, the flags, the miscompares of both tables, and the whole passes.
unfoldable pub housekeeping_of : ℕ → Counts → ℕ → ℕ → ℕ → ℕ → List ℕ
housekeeping_of time counts flags eeprom memory passes =
    telemetry_of cs_housekeeping time ((counts.accepted ∷ counts.errors ∷ flags ∷ 0 ∷ []) ++ be16_bytes eeprom ++ be16_bytes memory ++ be32_bytes passes)

-- The housekeeping packet at a place, by what happened before it.
unfoldable pub housekeeping_at : ℕ → Counts → List Happening → List ℕ
housekeeping_at time counts happened =
    housekeeping_of time counts (flags_of (is_cs_on (orders_among happened)) (is_table_on 1 (orders_among happened)) (is_table_on 2 (orders_among happened))) (miscompare_count 1 happened) (miscompare_count 2 happened) (pass_count (slices_among happened))
