-- Memory: the regions with their bytes, and which of them are protected.
use Rattle.std.specs.Prelude.{ℕ, ◌+◌, ◌-◌, Bool, nat_eq, List, [], ◌∷◌, map, take, drop, find, Option, None, Some, slice_get, if◌then◌else◌}
use Rattle.memory_block.specs.Zeros.{zeros}
use Rattle.memory_window.specs.declared.regions.Region.{Region}
use Rattle.memory_window.specs.Regions.{spans, is_eeprom, total_of}

-- a region and its bytes
pub record Area : Type 0 where
  pub region : Region
  pub bytes : List ℕ

-- the areas in the order of the map, and for each whether it is protected
pub record Memory : Type 0 where
  pub areas : List Area
  pub guarded : List Bool

-- the regions of areas
abbrev pub regions_of : List Area → List Region
regions_of areas = map (λ r. r.region) areas

-- the area in which a range of n bytes lies
abbrev pub home : List Area → ℕ → ℕ → Option Area
home areas at n = find (λ r. spans at n r.region) areas

-- the n bytes of an area from an address on
abbrev pub part_of : ℕ → ℕ → Area → List ℕ
part_of at n r = take n (drop (at - r.region.start) r.bytes)

-- the byte at an address, in the area that has it
abbrev pub byte_in : ℕ → Option Area → Option ℕ
byte_in at None = None
byte_in at (Some r) = slice_get r.bytes (at - r.region.start)

-- the byte at an address, where an area has it
abbrev pub byte_at : List Area → ℕ → Option ℕ
byte_at areas at = byte_in at (home areas at 1)

-- bytes that lie from an address on, each changed by a function of its address and itself
abbrev pub each_from : (ℕ → ℕ → ℕ) → ℕ → List ℕ → List ℕ
each_from f at [] = []
each_from f at (x ∷ xs) = f at x ∷ each_from f (at + 1) xs

-- areas whose bytes are each changed by a function of its address and itself
abbrev pub changed : (ℕ → ℕ → ℕ) → List Area → List Area
changed f areas = map (λ r. record { region = r.region; bytes = each_from f r.region.start r.bytes }) areas

-- memory in which the byte at an address has become a value
abbrev pub upset_at : Memory → ℕ → ℕ → Memory
upset_at m at value = record { areas = changed (λ a x. if nat_eq a at then value else x) m.areas; guarded = m.guarded }

-- a block of bytes, as the regions' areas side by side
abbrev pub cut : List Region → List ℕ → List Area
cut [] xs = []
cut (r ∷ rest) xs = record { region = r; bytes = take r.len xs } ∷ cut rest (drop r.len xs)

-- memory at the start: all bytes are 0, and every EEPROM region is protected
abbrev pub start_memory : List Region → Memory
start_memory regions = record { areas = cut regions (zeros (total_of regions)); guarded = map (λ r. is_eeprom r.kind) regions }
