-- Small memories for worked rows.
use Rattle.std.specs.Prelude.{ℕ, ◌*◌, Bool, true, false, List, [], ◌∷◌, ◌++◌, map, replicate}
use Rattle.std.specs.List.{range_with_len}
use Rattle.memory_block.specs.Zeros.{zeros}
use Rattle.memory_window.specs.Memory.{Area, Memory}
use Rattle.memory_window.specs.declared.regions.Kind.{Kind}
use Rattle.memory_window.specs.declared.regions.Kind.TheVariants.{Ram, Eeprom, Mem16}
use Rattle.mm_core.specs.Reading.{Seen}

-- 16 bytes of memory of a kind.
abbrev pub area : Kind → ℕ → List ℕ → Area
area kind start bytes = record { region = record { kind = kind; start = start; len = 16 }; bytes = bytes }

-- RAM from 0x1000 on that begins with 0xA1, 0xB2, 0xC3 and 0xD4, EEPROM from 0x2000 on that is protected, and memory of 16 bits from 0x3000 on.
abbrev pub three_areas : Memory
three_areas = record { areas = area Ram 0x1000 (0xA1 ∷ 0xB2 ∷ 0xC3 ∷ 0xD4 ∷ zeros 12) ∷ area Eeprom 0x2000 (zeros 16) ∷ area Mem16 0x3000 (zeros 16) ∷ []; guarded = false ∷ true ∷ false ∷ [] }

-- That memory, and two load files: two bytes for 0x1008, and one for protected EEPROM.
abbrev pub seen_three : Seen
seen_three = record { image = three_areas; loads = (0x1008, 0xE1 ∷ 0xE2 ∷ []) ∷ (0x200F, 0xE3 ∷ []) ∷ [] }

-- Eight regions of EEPROM, each protected or not.
abbrev pub eight_regions : List Bool → Memory
eight_regions guarded = record { areas = map (λ n. area Eeprom (0x1000 * n) (zeros 16)) (range_with_len 1 8); guarded = guarded }

-- RAM of 131,072 bytes from 0xFEDC0000 on, and no load file
abbrev pub seen_wide : Seen
seen_wide = record {
  image = record { areas = (record { region = record { kind = Ram; start = 0xFEDC0000; len = 0x20000 }; bytes = zeros 131072 }) ∷ []; guarded = false ∷ [] };
  loads = [];
}

-- eight regions of EEPROM, all protected
abbrev pub seen_eight : Seen
seen_eight = record { image = eight_regions (replicate 8 true); loads = [] }

-- fills, dumps and peeks of 8 bits, of which only the check, and the address and length are told
abbrev pub fill_with : ℕ → List ℕ → List ℕ
fill_with check fields = 0x18 ∷ 0x88 ∷ 0xC0 ∷ 0 ∷ 0 ∷ 0x0A ∷ 8 ∷ check ∷ (fields ++ 0xA5 ∷ [])

abbrev pub dump_with : ℕ → List ℕ → List ℕ
dump_with check fields = 0x18 ∷ 0x88 ∷ 0xC0 ∷ 0 ∷ 0 ∷ 9 ∷ 0x0D ∷ check ∷ fields

abbrev pub peek_with : ℕ → List ℕ → List ℕ
peek_with check fields = 0x18 ∷ 0x88 ∷ 0xC0 ∷ 0 ∷ 0 ∷ 6 ∷ 2 ∷ check ∷ 8 ∷ fields

-- EEPROM enable and disable of a region
abbrev pub region_with : ℕ → ℕ → ℕ → List ℕ
region_with code check region = 0x18 ∷ 0x88 ∷ 0xC0 ∷ 0 ∷ 0 ∷ 2 ∷ code ∷ check ∷ region ∷ []

-- a load of so many bytes 0xA5 at 0xFEDCBA99, with the low byte of its length field, its check and the CRC of its bytes
abbrev pub load_with : ℕ → ℕ → ℕ → ℕ → ℕ → List ℕ
load_with field check high low count = 0x18 ∷ 0x88 ∷ 0xC0 ∷ 0 ∷ 0 ∷ field ∷ 4 ∷ check ∷ 0xFE ∷ 0xDC ∷ 0xBA ∷ 0x99 ∷ high ∷ low ∷ replicate count 0xA5

-- a poke of 16 bits, a load of three bytes and a fill of 258, all at addresses and with numbers of all their bytes
abbrev pub wide_commands : List (List ℕ)
wide_commands =
    (0x18 ∷ 0x88 ∷ 0xC0 ∷ 0 ∷ 0 ∷ 0x0A ∷ 3 ∷ 0xB6 ∷ 0x10 ∷ 0xFE ∷ 0xDC ∷ 0xBA ∷ 0x98 ∷ 0x89 ∷ 0xAB ∷ 0xCD ∷ 0xEF ∷ [])
    ∷ (0x18 ∷ 0x88 ∷ 0xC0 ∷ 0 ∷ 0 ∷ 0x0A ∷ 4 ∷ 0x39 ∷ 0xFE ∷ 0xDC ∷ 0xBA ∷ 0x99 ∷ 4 ∷ 0x4D ∷ 0xD1 ∷ 0xD2 ∷ 0xD3 ∷ [])
    ∷ (0x18 ∷ 0x88 ∷ 0xC0 ∷ 0 ∷ 0 ∷ 0x0A ∷ 8 ∷ 0x0A ∷ 0xFE ∷ 0xDC ∷ 0xBA ∷ 0x99 ∷ 0 ∷ 0 ∷ 1 ∷ 2 ∷ 0xA5 ∷ []) ∷ []

-- an event of MM of type 2 at the time 0x01020304
abbrev pub late_event : ℕ → List ℕ
late_event id =
    8 ∷ 8 ∷ 0xC0 ∷ 0 ∷ 0 ∷ 0x25 ∷ 1 ∷ 2 ∷ 3 ∷ 4 ∷ 0 ∷ 0
    ∷ 0x4D ∷ 0x4D ∷ 0 ∷ 0 ∷ 0 ∷ 0 ∷ 0 ∷ 0 ∷ 0 ∷ 0 ∷ 0 ∷ 0 ∷ 0 ∷ 0 ∷ 0 ∷ 0 ∷ 0 ∷ 0 ∷ 0 ∷ 0
    ∷ 0 ∷ id ∷ 0 ∷ 2 ∷ 0 ∷ 0 ∷ 0 ∷ 0x42 ∷ 0 ∷ 0 ∷ 0 ∷ 1 ∷ []
