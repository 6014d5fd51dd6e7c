-- Lists at one more element, and by their elements.
use Rattle.std.proofs.Common.{◌≡◌, ℕ, zero, suc, ◌+◌, ◌<◌, ◌≤◌, Bool, true, false, not, List, [], ◌∷◌, ◌++◌, length, get_or, find, drop, map, Option, Some, None, inl, inr, refl, sym, ap, subst, ◌∙◌, arith, append-nil, length-append, cond}
use Rattle.std.specs.Prelude.{filter_map}
use Rattle.std.specs.List.{flat_map}
use Rattle.std.proofs.lemmas.List.{drop_more, drop_all}
use Rattle.std.proofs.lemmas.List.Elements.{filter_map-append}
use Rattle.histories.proofs.Lasts.{last_cases}

-- a `filter_map` at one more element
pub filter_map_none : {A B : Type 0} (f : A → Option B) (xs : List A) (x : A) → f x ≡ None → filter_map f (xs ++ x ∷ []) ≡ filter_map f xs
filter_map_none f xs x none = filter_map-append f xs (x ∷ []) ∙ rw none (append-nil (filter_map f xs))

pub filter_map_some : {A B : Type 0} (f : A → Option B) (xs : List A) (x : A) (y : B) → f x ≡ Some y → filter_map f (xs ++ x ∷ []) ≡ filter_map f xs ++ y ∷ []
filter_map_some f xs x y some = filter_map-append f xs (x ∷ []) ∙ rw some refl

-- an induction that adds at the end
by_length : {A : Type 0} (P : List A → Type 0) → P [] → ((xs : List A) (x : A) → P xs → P (xs ++ x ∷ [])) → (n : ℕ) (xs : List A) → length xs ≡ n → P xs
by_length P none more zero [] is = none
by_length P none more zero (x ∷ xs) is = absurd (omega arith)
by_length {A} P none more (suc n) xs is = elim (last_cases xs) [
  | inl empty ↦ subst P (sym empty) none
  | inr found ↦
      let long : length found.0 ≡ n = shorter found.0 found.1 found.2 in
      subst P (sym found.2) (more found.0 found.1 (by_length P none more n found.0 long))
]
  where
    shorter : (ys : List A) (y : A) → xs ≡ ys ++ y ∷ [] → length ys ≡ n
    shorter ys y whole = let long = ap length whole in let both = length-append ys (y ∷ []) in omega arith

pub last_ind : {A : Type 0} (P : List A → Type 0) → P [] → ((xs : List A) (x : A) → P xs → P (xs ++ x ∷ [])) → (xs : List A) → P xs
last_ind P none more xs = by_length P none more (length xs) xs refl

-- the first element that passes, behind some that don't
pub find_on : {A : Type 0} (p : A → Bool) (xs : List A) (i : ℕ) (x : A) → i < length xs → x ≡ get_or xs i x → p x ≡ false → find p (drop i xs) ≡ find p (drop (i + 1) xs)
find_on {A} p xs i x within is fails =
    ap (find p) (drop_more xs i x within) ∙ ap (λ (y : A). cond (p y) (Some y) (find p (drop (i + 1) xs))) (sym is)
    ∙ ap (λ (b : Bool). cond b (Some x) (find p (drop (i + 1) xs))) fails

pub find_here : {A : Type 0} (p : A → Bool) (xs : List A) (i : ℕ) (x : A) → i < length xs → x ≡ get_or xs i x → p x ≡ true → find p (drop i xs) ≡ Some x
find_here {A} p xs i x within is passes =
    ap (find p) (drop_more xs i x within) ∙ ap (λ (y : A). cond (p y) (Some y) (find p (drop (i + 1) xs))) (sym is)
    ∙ ap (λ (b : Bool). cond b (Some x) (find p (drop (i + 1) xs))) passes

pub find_end : {A : Type 0} (p : A → Bool) (xs : List A) (i : ℕ) → length xs ≤ i → find p (drop i xs) ≡ None
find_end p xs i past = ap (find p) (drop_all i xs past)

-- a list whose elements are those of another, each by a function
pub map_by_all : {A B : Type 0} (f : A → B) (xs : List A) (ys : List B) (d : A) (e : B) → length ys ≡ length xs → ((k : ℕ) → k < length xs → get_or ys k e ≡ f (get_or xs k d)) → ys ≡ map f xs
map_by_all f [] [] d e long each = refl
map_by_all f [] (y ∷ ys) d e long each = absurd (omega arith)
map_by_all f (x ∷ xs) [] d e long each = absurd (omega arith)
map_by_all {A} {B} f (x ∷ xs) (y ∷ ys) d e long each =
    let head : y ≡ f x = each 0 (omega arith) in
    let rest : ys ≡ map f xs = map_by_all f xs ys d e (omega arith) (λ k within. each (suc k) (omega arith)) in
    ap (λ (z : B). z ∷ ys) head ∙ ap (λ (zs : List B). f x ∷ zs) rest

-- what a test says that is turned round
pub off_by_not : (b : Bool) → not b ≡ true → b ≡ false
off_by_not true is = cc
off_by_not false is = refl

pub on_by_not : (b : Bool) → not b ≡ false → b ≡ true
on_by_not true is = refl
on_by_not false is = cc

-- where a function gives nothing at any element
pub flat_map_nothing : {A B : Type 0} (f : A → List B) (xs : List A) → ((x : A) → f x ≡ []) → flat_map f xs ≡ []
flat_map_nothing f [] each = refl
flat_map_nothing f (x ∷ xs) each = rw (each x) (flat_map_nothing f xs each)
