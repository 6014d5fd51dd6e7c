-- What reads of memory say of the bytes at its addresses.
use Rattle.std.specs.Prelude.{◌≡◌, ℕ, ◌+◌, ◌<◌, List, length, All, None, Some, slice_index}
use Rattle.memory_window.specs.Regions.{map_fault_of}
use Rattle.memory_window.specs.Memory.{Area, Memory, byte_at, regions_of}

-- an area has as many bytes as its region
abbrev pub IsFilled : Area → Type 0
IsFilled r = length r.bytes ≡ r.region.len

-- memory of a map, in which each area has as many bytes as its region and each region has a flag
pub record IsWhole (m : Memory) : Type 0 where
  pub map : map_fault_of (regions_of m.areas) ≡ None
  pub filled : All IsFilled m.areas
  pub flagged : length m.guarded ≡ length m.areas

-- these bytes stand at the addresses from this one on
abbrev pub StandAt : List Area → ℕ → List ℕ → Type 0
StandAt areas at bytes = (k : ℕ) → k < length bytes → byte_at areas (at + k) ≡ Some (slice_index bytes k)
