-- Lists without those that pass a test.
use Rattle.std.proofs.Common.{◌≡◌, Bool, true, false, not, cond, ◌||◌, List, [], ◌∷◌, map, refl, ap}
use Rattle.std.specs.Prelude.{filter}

module _ {A : Type 0} where
  pub all_stay : (xs : List A) → filter (λ _. true) xs ≡ xs
  all_stay [] = refl
  all_stay (x ∷ xs) = ap (λ (ys : List A). x ∷ ys) (all_stay xs)

  -- one test after another
  pub both_tests : (p q : A → Bool) (xs : List A) → filter (λ x. not (q x)) (filter (λ x. not (p x)) xs) ≡ filter (λ x. not (p x || q x)) xs
  both_tests p q [] = refl
  both_tests p q (x ∷ xs) = by_case (both_tests p q xs) (p x)
    where
      by_case :
          filter (λ x. not (q x)) (filter (λ x. not (p x)) xs) ≡ filter (λ x. not (p x || q x)) xs
          → (b : Bool)
          → filter (λ x. not (q x)) (cond (not b) (x ∷ filter (λ x. not (p x)) xs) (filter (λ x. not (p x)) xs))
          ≡ cond (not (b || q x)) (x ∷ filter (λ x. not (p x || q x)) xs) (filter (λ x. not (p x || q x)) xs)
      by_case rest true = rest
      by_case rest false = ap (λ (ys : List A). cond (not (q x)) (x ∷ ys) ys) rest

-- a test of what f gives
pub map_filter : {A B : Type 0} (f : A → B) (p : B → Bool) (xs : List A) → map f (filter (λ x. p (f x)) xs) ≡ filter p (map f xs)
map_filter f p [] = refl
map_filter {A} {B} f p (x ∷ xs) = by_case (map_filter f p xs) (p (f x))
  where
    by_case :
        map f (filter (λ x. p (f x)) xs) ≡ filter p (map f xs)
        → (b : Bool) → map f (cond b (x ∷ filter (λ x. p (f x)) xs) (filter (λ x. p (f x)) xs)) ≡ cond b (f x ∷ filter p (map f xs)) (filter p (map f xs))
    by_case rest true = ap (λ (ys : List B). f x ∷ ys) rest
    by_case rest false = rest
