-- The places of the application monitors up to the last used entry.
use Rattle.std.proofs.Common.{◌≡◌, ℕ, zero, suc, ◌+◌, ◌<◌, ◌≤◌, Bool, true, false, ◌||◌, cond, List, [], ◌∷◌, ◌++◌, length, take, Option, Some, None, refl, sym, ap, ◌∙◌, arith, length-take}
use Rattle.std.specs.Prelude.{is_some}
use Rattle.std.specs.List.{flat_map, list_any}
use Rattle.std.proofs.lemmas.Bool.{or_parts}
use Rattle.std.proofs.lemmas.List.{get_or_default}
use Rattle.histories.proofs.Lasts.{any_push}
use Rattle.histories.proofs.Fronts.{front_more}
use Rattle.hs_tables.specs.Apps.{blank_row}
use Rattle.hs_tables.specs.declared.apps.AppRow.{AppRow}
use Rattle.hs_tables.specs.declared.apps.AppEntry.{AppEntry}
use Rattle.hs_monitors.specs.Monitors.{row_at, is_entry, places_of}

-- no row is used
places_unused : (rows : List AppRow) → list_any is_entry rows ≡ false → places_of rows ≡ 0
unfolding places_of
places_unused [] none = refl
places_unused (row ∷ rows) none = rw none refl

length_front : {A : Type 0} (xs : List A) (i : ℕ) → i < length xs → length (take i xs) ≡ i
length_front xs i within = let long = length-take i xs in omega arith

-- one row more
pub places_none : 0 ≡ places_of []
unfolding places_of
places_none = refl

pub places_more : (xs : List AppRow) (row : AppRow) → places_of (xs ++ row ∷ []) ≡ cond (is_entry row) (length xs + 1) (places_of xs)
unfolding places_of
places_more [] row = by_case (is_entry row)
  where
    by_case : (b : Bool) → ◌≡◌ {A = ℕ} (cond (b || false) (0 + 1) 0) (cond b (0 + 1) 0)
    by_case true = refl
    by_case false = refl
places_more (x ∷ xs) row =
    ap (λ (t : Bool). cond (is_entry x || t) (places_of (xs ++ row ∷ []) + 1) 0) (any_push is_entry xs row)
    ∙ ap (λ (n : ℕ). cond (is_entry x || (list_any is_entry xs || is_entry row)) (n + 1) 0) (places_more xs row)
    ∙ by_case (is_entry x) (list_any is_entry xs) (is_entry row)
  where
    by_case : (a b c : Bool) → cond (a || (b || c)) (cond c (length xs + 1) (places_of xs) + 1) 0 ≡ cond c (length (x ∷ xs) + 1) (cond (a || b) (places_of xs + 1) 0)
    by_case true b true = omega arith
    by_case true b false = refl
    by_case false true true = omega arith
    by_case false true false = refl
    by_case false false true = omega arith
    by_case false false false = refl

pub places_step : (rows : List AppRow) (i places next : ℕ) → i < length rows → places ≡ places_of (take i rows) → next ≡ cond (is_entry (row_at rows i)) (i + 1) places → next ≡ places_of (take (i + 1) rows)
places_step rows i places next within is becomes =
    let long : length (take i rows) ≡ i = length_front rows i within in
    becomes
    ∙ ap (λ (n : ℕ). cond (is_entry (row_at rows i)) (i + 1) n) is
    ∙ ap (λ (n : ℕ). cond (is_entry (row_at rows i)) (n + 1) (places_of (take i rows))) (sym long)
    ∙ sym (ap places_of (front_more rows i (row_at rows i) within (get_or_default rows i blank_row (row_at rows i) within)) ∙ places_more (take i rows) (row_at rows i))

-- they are no more than the rows
pub places_few : (rows : List AppRow) → places_of rows ≤ length rows
unfolding places_of
places_few [] = omega arith
places_few (row ∷ rows) = by_test (is_entry row || list_any is_entry rows) (places_few rows)
  where
    by_test : (t : Bool) → places_of rows ≤ length rows → cond t (places_of rows + 1) 0 ≤ length (row ∷ rows)
    by_test true few = omega arith
    by_test false few = omega arith

-- a row behind them isn't used
pub unused_behind : (rows : List AppRow) (k : ℕ) → places_of rows ≤ k → is_entry (row_at rows k) ≡ false
unfolding places_of
unused_behind [] k past = refl
unused_behind (row ∷ rows) k past = by_test (λ j behind. unused_behind rows j behind) (is_entry row || list_any is_entry rows) refl k past
  where
    by_test : ((j : ℕ) → places_of rows ≤ j → is_entry (row_at rows j) ≡ false) → (t : Bool) → (is_entry row || list_any is_entry rows) ≡ t → (j : ℕ) → cond t (places_of rows + 1) 0 ≤ j → is_entry (row_at (row ∷ rows) j) ≡ false
    by_test rest true some zero within = absurd (omega arith)
    by_test rest true some (suc j) within = rest j (omega arith)
    by_test rest false none zero within = (or_parts (is_entry row) (list_any is_entry rows) none).0
    by_test rest false none (suc j) within = rest j (let zero_places = places_unused rows (or_parts (is_entry row) (list_any is_entry rows) none).1 in omega arith)

-- so nothing is given behind them
none_given : {B : Type 0} (f : AppRow → List B) → ((row : AppRow) → is_entry row ≡ false → f row ≡ []) → (rows : List AppRow) → list_any is_entry rows ≡ false → flat_map f rows ≡ []
none_given f unused [] none = refl
none_given f unused (row ∷ rows) none =
    let parts = or_parts (is_entry row) (list_any is_entry rows) none in
    rw (unused row parts.0) (none_given f unused rows parts.1)

pub given_front : {B : Type 0} (f : AppRow → List B) → ((row : AppRow) → is_entry row ≡ false → f row ≡ []) → (rows : List AppRow) (i : ℕ) → places_of rows ≤ i → flat_map f (take i rows) ≡ flat_map f rows
unfolding places_of
given_front f unused [] zero past = refl
given_front f unused [] (suc i) past = refl
given_front {B} f unused (row ∷ rows) zero past = by_test (is_entry row || list_any is_entry rows) refl past
  where
    by_test : (t : Bool) → (is_entry row || list_any is_entry rows) ≡ t → cond t (places_of rows + 1) 0 ≤ 0 → flat_map f (take 0 (row ∷ rows)) ≡ flat_map f (row ∷ rows)
    by_test true some within = absurd (omega arith)
    by_test false none within = sym (none_given f unused (row ∷ rows) none)
given_front {B} f unused (row ∷ rows) (suc i) past = ap (λ (more : List B). f row ++ more) (given_front f unused rows i (by_test (is_entry row || list_any is_entry rows) refl past))
  where
    by_test : (t : Bool) → (is_entry row || list_any is_entry rows) ≡ t → cond t (places_of rows + 1) 0 ≤ suc i → places_of rows ≤ i
    by_test true some within = omega arith
    by_test false none within = let zero_places = places_unused rows (or_parts (is_entry row) (list_any is_entry rows) none).1 in omega arith

-- no place, no used entry at all
pub none_used : (rows : List AppRow) (k : ℕ) → places_of rows ≡ 0 → is_entry (row_at rows k) ≡ false
none_used rows k zero_places = unused_behind rows k (omega arith)

-- what no entry is
pub no_entry : (found : Option AppEntry) (e : AppEntry) → is_some found ≡ false → found ≡ Some e → ⊥
no_entry None e none some = cc
no_entry (Some x) e none some = cc

pub entry_none : (found : Option AppEntry) → is_some found ≡ false → found ≡ None
entry_none None none = refl
entry_none (Some x) none = cc
