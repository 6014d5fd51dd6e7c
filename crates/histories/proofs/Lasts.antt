-- `from_last`, `last_or` and `last_place` at one more element.
use Rattle.std.proofs.Common.{◌≡◌, ℕ, ◌+◌, ◌-◌, ◌≤◌, suc, Bool, true, false, cond, not, ◌||◌, ◌⊎◌, inl, inr, List, [], ◌∷◌, ◌++◌, length, drop, reverse, refl, ap, length-append, arith}
use Rattle.std.specs.List.{list_any, after_last, prefix_len}
use Rattle.std.proofs.lemmas.List.{reverse-append, drop-append-le}
use Rattle.std.proofs.Math.ListN.{drop_of_length-le}
use Rattle.histories.specs.Words.{from_last, last_or, last_place}

-- whether an element passes a test, of one more
pub any_push : {A : Type 0} (p : A → Bool) (xs : List A) (x : A) → list_any p (xs ++ x ∷ []) ≡ (list_any p xs || p x)
any_push p [] x = elim (p x) as (λ b. (b || false) ≡ b) [ true ↦ refl | false ↦ refl ]
any_push p (y ∷ ys) x = elim (p y) as (λ b. (b || list_any p (ys ++ x ∷ [])) ≡ ((b || list_any p ys) || p x)) [ true ↦ refl | false ↦ any_push p ys x ]

-- the elements from the last that passes on
pub from_last_more : {A : Type 0} (p : A → Bool) (xs : List A) (x : A) → from_last p (xs ++ x ∷ []) ≡ cond (p x) (x ∷ []) (from_last p xs ++ x ∷ [])
unfolding from_last
from_last_more p [] x = elim (p x) as (λ b. x ∷ [] ≡ cond b (x ∷ []) (x ∷ [])) [ true ↦ refl | false ↦ refl ]
from_last_more {A} p (y ∷ ys) x =
    rw (any_push p ys x, from_last_more p ys x) (by_case (list_any p ys) (p x))
  where
    by_case : (a b : Bool) → cond (a || b) (cond b (x ∷ []) (from_last p ys ++ x ∷ [])) (y ∷ (ys ++ x ∷ [])) ≡ cond b (x ∷ []) (cond a (from_last p ys) (y ∷ ys) ++ x ∷ [])
    by_case true true = refl
    by_case true false = refl
    by_case false true = refl
    by_case false false = refl

-- the last element of one more
pub last_or_more : {A : Type 0} (d : A) (xs : List A) (x : A) → last_or d (xs ++ x ∷ []) ≡ x
unfolding last_or
last_or_more d [] x = refl
last_or_more d (y ∷ ys) x = last_or_more y ys x

-- the last element of none
pub last_or_none : {A : Type 0} (d : A) → last_or d [] ≡ d
unfolding last_or
last_or_none d = refl

-- the place of the last element that passes
pub last_place_more : {A : Type 0} (p : A → Bool) (xs : List A) (x : A) → last_place p (xs ++ x ∷ []) ≡ cond (p x) (length xs) (last_place p xs)
unfolding last_place
last_place_more p [] x = elim (p x) as (λ b. ◌≡◌ {A = ℕ} 0 (cond b 0 0)) [ true ↦ refl | false ↦ refl ]
last_place_more p (y ∷ ys) x =
    rw (any_push p ys x, last_place_more p ys x) (by_case (list_any p ys) (p x))
  where
    by_case : (a b : Bool) → ◌≡◌ {A = ℕ} (cond (a || b) (suc (cond b (length ys) (last_place p ys))) 0) (cond b (suc (length ys)) (cond a (suc (last_place p ys)) 0))
    by_case true true = refl
    by_case true false = refl
    by_case false true = refl
    by_case false false = refl

-- the last element of a list with a first one
pub last_or_cons : {A : Type 0} (d x : A) (xs : List A) → last_or d (x ∷ xs) ≡ last_or x xs
unfolding last_or
last_or_cons d x xs = refl

-- of no elements
pub from_last_none : {A : Type 0} (p : A → Bool) → from_last p [] ≡ []
unfolding from_last
from_last_none p = refl

pub last_place_none : {A : Type 0} (p : A → Bool) → last_place p [] ≡ 0
unfolding last_place
last_place_none p = refl

-- a place of the list, or its first
pub last_place_within : {A : Type 0} (p : A → Bool) (xs : List A) → last_place p xs ≤ length xs
unfolding last_place
last_place_within p [] = omega arith
last_place_within p (x ∷ xs) = by_case (list_any p xs) (last_place_within p xs)
  where
    by_case : (b : Bool) → last_place p xs ≤ length xs → cond b (suc (last_place p xs)) 0 ≤ suc (length xs)
    by_case true within = omega arith
    by_case false within = omega arith

-- what stands from the last that passes on stands from its place on
pub from_last_is : {A : Type 0} (p : A → Bool) (xs : List A) → from_last p xs ≡ drop (last_place p xs) xs
unfolding from_last last_place
from_last_is p [] = refl
from_last_is p (x ∷ xs) =
    rw (from_last_is p xs) (by_case (list_any p xs))
  where
    by_case : (b : Bool) → cond b (drop (last_place p xs) xs) (x ∷ xs) ≡ drop (cond b (suc (last_place p xs)) 0) (x ∷ xs)
    by_case true = refl
    by_case false = refl

-- what stands after the last that passes, at one more element: nothing where it passes
pub after_last_passes : {A : Type 0} (p : A → Bool) (xs : List A) (x : A) → p x ≡ true → after_last p (xs ++ x ∷ []) ≡ []
after_last_passes p xs x passes = rw (reverse-append xs (x ∷ []), passes) (drop_of_length-le (xs ++ x ∷ []) (omega arith))

-- and one more where it doesn't
pub after_last_other : {A : Type 0} (p : A → Bool) (xs : List A) (x : A) → p x ≡ false → after_last p (xs ++ x ∷ []) ≡ after_last p xs ++ x ∷ []
after_last_other {A} p xs x other =
    let behind : ℕ = prefix_len (λ (y : A). not (p y)) (reverse xs) in
    let same : length xs + 1 - (1 + behind) ≡ length xs - behind = omega arith in
    rw (reverse-append xs (x ∷ []), other, length-append xs (x ∷ []), same) (drop-append-le (length xs - behind) xs (x ∷ []) (omega arith))

-- both at once
pub after_last_more : {A : Type 0} (p : A → Bool) (xs : List A) (x : A) → after_last p (xs ++ x ∷ []) ≡ cond (p x) [] (after_last p xs ++ x ∷ [])
after_last_more {A} p xs x = by_case (p x) refl
  where
    by_case : (b : Bool) → p x ≡ b → after_last p (xs ++ x ∷ []) ≡ cond b [] (after_last p xs ++ x ∷ [])
    by_case true passes = after_last_passes p xs x passes
    by_case false other = after_last_other p xs x other

-- a list is empty, or has a last element
pub last_cases : {A : Type 0} (xs : List A) → (xs ≡ []) ⊎ ((ys : List A) × (y : A) × (xs ≡ ys ++ y ∷ []))
last_cases [] = inl refl
last_cases (x ∷ xs) = elim (last_cases xs) [
  | inl none ↦ inr ([], x, ap (λ rest. x ∷ rest) none)
  | inr found ↦ inr (x ∷ found.0, found.1, ap (λ rest. x ∷ rest) found.2)
]
