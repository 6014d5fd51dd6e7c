-- The first faulty entry of a table.
use Rattle.std.specs.Prelude.{◌≡◌, ℕ, ◌+◌, ◌<◌, List, [], ◌∷◌, length, map, slice_index_or, Option, Some, None}
use Rattle.std.specs.List.{range_with_len}
use Rattle.table_files.specs.declared.fault.EntryFault.{EntryFault}

-- The fault of entry n, where it has a reason to be refused, or else another.
abbrev pub fault_or : ℕ → Option ℕ → Option EntryFault → Option EntryFault
fault_or n None behind = behind
fault_or n (Some reason) behind = Some (record { entry = n; reason = reason })

-- The fault of the first of these entries that has a reason to be refused; the first of all has number n.
unfoldable pub first_fault : {E : Type 0} → (E → Option ℕ) → ℕ → List E → Option EntryFault
first_fault reason_of n [] = None
first_fault reason_of n (e ∷ entries) = fault_or n (reason_of e) (first_fault reason_of (n + 1) entries)

-- The entries of a payload that has so many, each given by its place, from 0.
unfoldable pub entries_in : {E : Type 0} → (List ℕ → ℕ → E) → ℕ → List ℕ → List E
entries_in entry_at count payload = map (entry_at payload) (range_with_len 0 count)

-- What is said where the entries have no fault, or else.
abbrev pub where_well : {A : Type 0} → A → A → Option EntryFault → A
where_well well faulty None = well
where_well well faulty (Some fault) = faulty

-- The first of some reasons to refuse an entry is this one, and stands in this place.
pub record IsFirstReason (reasons : List (Option ℕ)) (place reason : ℕ) : Type 0 where
  pub within : place < length reasons
  pub here : slice_index_or reasons place None ≡ Some reason
  pub before : (k : ℕ) → k < place → slice_index_or reasons k None ≡ None
