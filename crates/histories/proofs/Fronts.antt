-- The front of a list, one element longer: what a loop has come to.
use Rattle.std.proofs.Common.{◌≡◌, ℕ, ◌+◌, ◌<◌, Bool, cond, List, [], ◌∷◌, ◌++◌, length, take, get_or, sym, ◌∙◌, ap, arith, add-one, append-nil}
use Rattle.std.proofs.Math.Seq.{take-suc}
use Rattle.std.proofs.lemmas.Grind.{flat_map-append}
use Rattle.std.specs.List.{All, flat_map, count_by, fold}
use Rattle.std.proofs.lemmas.List.Sums.{fold_push}

-- one element more
pub front_more : {A : Type 0} (xs : List A) (i : ℕ) (x : A) → i < length xs → x ≡ get_or xs i x → take (i + 1) xs ≡ take i xs ++ x ∷ []
front_more xs i x within is = ap (λ n. take n xs) (add-one i) ∙ take-suc xs i x within ∙ ap (λ y. take i xs ++ y ∷ []) (sym is)

-- a `flat_map` of one element more
pub flat_map_more : {A B : Type 0} (f : A → List B) (xs : List A) (x : A) → flat_map f (xs ++ x ∷ []) ≡ flat_map f xs ++ f x
flat_map_more f xs x = flat_map-append f xs (x ∷ []) ∙ ap (λ more. flat_map f xs ++ more) (append-nil (f x))

-- a `flat_map` of the front, one element longer
pub flat_map_front : {A B : Type 0} (f : A → List B) (xs : List A) (i : ℕ) (x : A) → i < length xs → x ≡ get_or xs i x → flat_map f (take (i + 1) xs) ≡ flat_map f (take i xs) ++ f x
flat_map_front f xs i x within is = ap (flat_map f) (front_more xs i x within is) ∙ flat_map_more f (take i xs) x

-- a `fold` over the front, one element longer
pub fold_front : {A B : Type 0} (f : B → A → B) (b : B) (xs : List A) (i : ℕ) (x : A) → i < length xs → x ≡ get_or xs i x → fold f b (take (i + 1) xs) ≡ f (fold f b (take i xs)) x
fold_front f b xs i x within is = ap (fold f b) (front_more xs i x within is) ∙ fold_push f b (take i xs) x

-- a count of one element more
pub count_more : {A : Type 0} (p : A → Bool) (xs : List A) (x : A) → count_by p (xs ++ x ∷ []) ≡ count_by p xs + cond (p x) 1 0
count_more p xs x = fold_push (λ (n : ℕ) y. n + cond (p y) 1 0) 0 xs x

-- a `flat_map` of one list behind another
pub flat_map_both : {A B : Type 0} (f : A → List B) (xs ys : List A) → flat_map f (xs ++ ys) ≡ flat_map f xs ++ flat_map f ys
flat_map_both f xs ys = flat_map-append f xs ys

-- a fact of all elements of none
pub none_fail : {A : Type 0} (P : A → Type 0) → All P []
none_fail P k d within = absurd (omega arith)
