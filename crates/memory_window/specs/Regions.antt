-- Regions of memory: which addresses they have, and which lists of regions are a map.
use Rattle.std.specs.Prelude.{◌≡◌, ℕ, ◌+◌, ◌<◌, ◌≤◌, ◌%◌, ◌^◌, Bool, true, false, not, ◌&&◌, ◌||◌, nat_eq, nat_le, nat_lt, List, [], ◌∷◌, length, sum_by, Option, None, Some, if◌then◌else◌}
use Rattle.std.specs.List.{list_any}
use Rattle.memory_window.specs.declared.regions.Region.{Region}
use Rattle.memory_window.specs.declared.regions.Kind.{Kind}
use Rattle.memory_window.specs.declared.regions.Kind.TheVariants.{Ram, Eeprom, Mem8, Mem16, Mem32}
use Rattle.memory_window.specs.declared.regions.MapFault.{MapFault}
use Rattle.memory_window.specs.declared.regions.MapFault.TheVariants.{Empty, Overlap, TooBig, TooMany, Alignment}

-- whether a region is EEPROM, which alone can be protected
abbrev pub is_eeprom : Kind → Bool
is_eeprom Ram = false
is_eeprom Eeprom = true
is_eeprom Mem8 = false
is_eeprom Mem16 = false
is_eeprom Mem32 = false

-- whether memory of a kind may be read and written in units of so many bits
abbrev pub allows : Kind → ℕ → Bool
allows Ram size = true
allows Eeprom size = true
allows Mem8 size = nat_eq size 8
allows Mem16 size = nat_eq size 16
allows Mem32 size = nat_eq size 32

-- of how many bytes the address and the length of a range of a kind must be multiples
abbrev pub unit_of : Kind → ℕ
unit_of Ram = 1
unit_of Eeprom = 1
unit_of Mem8 = 1
unit_of Mem16 = 2
unit_of Mem32 = 4

-- whether a region has an address
abbrev pub holds : ℕ → Region → Bool
holds at r = nat_le r.start at && nat_lt at (r.start + r.len)

-- whether one of the regions has an address
abbrev pub is_mapped : List Region → ℕ → Bool
is_mapped regions at = list_any (holds at) regions

-- whether a range of n bytes that begins at an address lies in a region
abbrev pub spans : ℕ → ℕ → Region → Bool
spans at n r = nat_le r.start at && nat_le (at + n) (r.start + r.len)

-- whether two regions share an address: each begins before the other ends
abbrev pub meet : Region → Region → Bool
meet r s = nat_lt r.start (s.start + s.len) && nat_lt s.start (r.start + r.len)

-- whether two of the regions share an address
abbrev pub has_overlap : List Region → Bool
has_overlap [] = false
has_overlap (r ∷ rest) = list_any (meet r) rest || has_overlap rest

-- whether a region has length 0
abbrev pub is_empty : Region → Bool
is_empty r = nat_eq r.len 0

-- whether there is no region, or one of length 0
abbrev pub has_blank : List Region → Bool
has_blank regions = nat_eq (length regions) 0 || list_any is_empty regions

-- how many bytes the regions have together
abbrev pub total_of : List Region → ℕ
total_of regions = sum_by (λ r. r.len) regions

-- whether a region ends past the last address
abbrev pub ends_late : Region → Bool
ends_late r = nat_lt (2 ^ 32) (r.start + r.len)

-- whether the regions are too large together, or one ends past the last address
abbrev pub are_too_big : List Region → Bool
are_too_big regions = nat_lt 4194304 (total_of regions) || list_any ends_late regions

-- whether a region's start or length is no multiple of 4
abbrev pub is_unaligned : Region → Bool
is_unaligned r = not (nat_eq (r.start % 4) 0) || not (nat_eq (r.len % 4) 0)

-- the first fault that a list of regions has, in the order of the faults; none where it is a map
unfoldable pub map_fault_of : List Region → Option MapFault
map_fault_of regions =
    if has_blank regions then Some Empty else
    if has_overlap regions then Some Overlap else
    if are_too_big regions then Some TooBig else
    if nat_lt 8 (length regions) then Some TooMany else
    if list_any is_unaligned regions then Some Alignment else None

-- the region that stands behind the regions of a map
abbrev pub blank : Region
blank = record { kind = Ram; start = 0; len = 0 }

-- what holds of the regions of a map
pub record IsMap (regions : List Region) : Type 0 where
  pub some_region : 0 < length regions
  pub few : length regions ≤ 8
  pub sized : list_any is_empty regions ≡ false
  pub apart : has_overlap regions ≡ false
  pub small : total_of regions ≤ 4194304
  pub within : list_any ends_late regions ≡ false
  pub aligned : list_any is_unaligned regions ≡ false
