-- What happens in CS, in order: something is ordered, a slice is read, or a table becomes active.
use Rattle.std.specs.Prelude.{ℕ, ◌==◌, Bool, true, false, List, [], ◌∷◌, filter_map, Option, Some, None}
use Rattle.std.specs.List.{after_last}
use Rattle.cs_slices.specs.declared.instructions.Instruction.{Instruction}

-- A slice: the place of its entry, the offsets in the entry of its first byte and behind its last one, whether it ends at the entry's end, and its bytes.
pub record Slice : Type 0 where
  pub place : ℕ
  pub from : ℕ
  pub till : ℕ
  pub ends : Bool
  pub bytes : List ℕ

-- A command ordered this, this slice was read, or a table of this number became active.
pub data Happening : Type 0 where
  Ordered : Instruction → Happening
  Read : Slice → Happening
  Renewed : ℕ → Happening

-- What is ordered, where something is.
abbrev pub order_in : Happening → Option Instruction
order_in (Ordered order) = Some order
order_in (Read s) = None
order_in (Renewed n) = None

-- The slice that is read, where one is.
abbrev pub slice_in : Happening → Option Slice
slice_in (Ordered order) = None
slice_in (Read s) = Some s
slice_in (Renewed n) = None

-- Whether a slice is read.
abbrev pub is_read : Happening → Bool
is_read (Ordered order) = false
is_read (Read s) = true
is_read (Renewed n) = false

-- Whether table n becomes active.
abbrev pub renews : ℕ → Happening → Bool
renews n (Ordered order) = false
renews n (Read s) = false
renews n (Renewed m) = m == n

-- All that was ordered among these happenings, and all slices that were read.
unfoldable pub orders_among : List Happening → List Instruction
orders_among happened = filter_map order_in happened

unfoldable pub slices_among : List Happening → List Slice
slices_among happened = filter_map slice_in happened

-- What happened since the last slice.
unfoldable pub since_slice : List Happening → List Happening
since_slice happened = after_last is_read happened

-- What was ordered, and the slices, since table n last became active, or all where it never did.
unfoldable pub orders_since : ℕ → List Happening → List Instruction
orders_since n happened = orders_among (after_last (renews n) happened)

unfoldable pub slices_since : ℕ → List Happening → List Slice
slices_since n happened = slices_among (after_last (renews n) happened)

-- The slice that is read next, where one is.
abbrev pub reading : Option Slice → List Happening
reading None = []
reading (Some s) = Read s ∷ []
