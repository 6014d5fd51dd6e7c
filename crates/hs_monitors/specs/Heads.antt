-- Short numbers of names, by which the places of a table are found whose names may be a given one.
use Rattle.std.specs.Prelude.{◌≡◌, ◌<◌, ◌≤◌, ◌%◌, ℕ, List, length, get_or, slice_index_or, bit_xor, Option, Some}
use Rattle.packet_forms.specs.Numbers.{be32_at}
use Rattle.hs_monitors.specs.declared.heads.Stretch.{Stretch}
use Rattle.hs_monitors.specs.declared.heads.Heads.{Heads}

-- The head of a name: its first eight bytes, put together into four.
unfoldable pub head_of : List ℕ → ℕ
head_of name = bit_xor (be32_at name 0) (be32_at name 4)

-- The places that a slot has.
abbrev pub stretch_at : List Stretch → ℕ → Stretch
stretch_at stretches slot = slice_index_or stretches slot (record { from = 0; end = 0 })

-- Those of the slot of a head.
abbrev pub slot_stretch : Heads → ℕ → Stretch
slot_stretch heads head = stretch_at heads.stretches (head % 251)

-- The name in a place is noted: its head stands there, and the places of its slot have the place.
pub record IsHeaded (heads : Heads) (place : ℕ) (name : List ℕ) : Type 0 where
  pub head : get_or heads.heads place 0 ≡ head_of name
  pub from : (slot_stretch heads (head_of name)).from ≤ place
  pub end : place < (slot_stretch heads (head_of name)).end

-- The names in the first places are noted, and no places behind these.
pub record AreHeaded (named : ℕ → Option (List ℕ)) (places : ℕ) (heads : Heads) : Type 0 where
  pub long : (length heads.heads ≡ 32) × (length heads.stretches ≡ 251)
  pub each : (k : ℕ) (name : List ℕ) → k < places → named k ≡ Some name → IsHeaded heads k name
