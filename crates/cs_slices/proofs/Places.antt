-- The places of both tables' entries.
use Rattle.std.proofs.Common.{◌≡◌, ℕ, ◌+◌, ◌-◌, ◌/◌, ◌<◌, ◌≤◌, true, false, List, length, get_or, refl, ap, ◌∙◌, sym, arith, inl, inr, lt-ltb, le-ltb}
use Rattle.std.specs.Prelude.{◌==◌}
use Rattle.std.proofs.lemmas.Bool.{cases_lt, eqb-true}
use Rattle.std.proofs.lemmas.List.{get_or_default}
use Rattle.cs_slices.specs.Tables.{TablePair, pair_of, with_table, entry_in, blank_segment}
use Rattle.cs_slices.specs.Orders.{table_of}
use Rattle.cs_slices.specs.declared.segments.Segment.{Segment}

-- the table of a place
pub table_first : (place : ℕ) → place < 16 → place / 16 + 1 ≡ 1
table_first place small = omega arith

pub table_second : (place : ℕ) → 16 ≤ place → place < 32 → place / 16 + 1 ≡ 2
table_second place large small = omega arith

pub entry_first : (first second : List Segment) (place : ℕ) (d : Segment) → length first ≡ 16 → place < 16 → get_or first place d ≡ entry_in (pair_of first second) place
unfolding entry_in
entry_first first second place d whole within =
    let inside : place < length first = omega arith in
    get_or_default first place d blank_segment inside ∙ sym (rw (lt-ltb place 16 within) refl)

pub entry_second : (first second : List Segment) (place : ℕ) (d : Segment) → length second ≡ 16 → 16 ≤ place → place < 32 → get_or second (place - 16) d ≡ entry_in (pair_of first second) place
unfolding entry_in
entry_second first second place d whole past within =
    let inside : place - 16 < length second = omega arith in
    get_or_default second (place - 16) d blank_segment inside ∙ sym (rw (le-ltb place 16 past) refl)

-- an entry once a table of this number became active
pub entry_renewed : (n place : ℕ) (rows : List Segment) (tables : TablePair) → place < 32 → (n == table_of place) ≡ true → entry_in (with_table n rows tables) place ≡ entry_in (pair_of rows rows) place
unfolding entry_in
entry_renewed n place rows tables within same = elim (cases_lt place 16) [
  | inl small ↦ let one : n ≡ 1 = eqb-true n (table_of place) same ∙ table_first place small in rw (lt-ltb place 16 small, one) refl
  | inr large ↦ let two : n ≡ 2 = eqb-true n (table_of place) same ∙ table_second place large within in rw (le-ltb place 16 large, two) refl
]

pub entry_kept : (n place : ℕ) (rows : List Segment) (tables : TablePair) → place < 32 → (n == table_of place) ≡ false → entry_in (with_table n rows tables) place ≡ entry_in tables place
unfolding entry_in
entry_kept n place rows tables within other = elim (cases_lt place 16) [
  | inl small ↦ let not_first : (n == 1) ≡ false = ap (λ (m : ℕ). n == m) (sym (table_first place small)) ∙ other in rw (lt-ltb place 16 small, not_first) refl
  | inr large ↦ let not_second : (n == 2) ≡ false = ap (λ (m : ℕ). n == m) (sym (table_second place large within)) ∙ other in rw (le-ltb place 16 large, not_second) refl
]
