-- The first element that fails a test, counted from a number, and what is left of a list behind the elements that passed.
use Rattle.std.proofs.Common.{◌≡◌, ℕ, ◌+◌, ◌<◌, ◌≤◌, Bool, true, false, cond, not, ◌&&◌, List, [], ◌∷◌, length, drop, get_or, Option, Some, None, refl, sym, ap, ◌∙◌}
use Rattle.std.specs.List.{AllPass, list_all, position_from}
use Rattle.std.proofs.lemmas.List.{drop_more, drop_all}
use Rattle.std.proofs.lemmas.List.Sums.{AllPass-from_list_all}

-- where none fails, all pass
all_of : {A : Type 0} (p : A → Bool) (xs : List A) (n : ℕ) → position_from (λ (x : A). not (p x)) n xs ≡ None → list_all p xs ≡ true
all_of p [] n none = refl
all_of {A} p (x ∷ xs) n none = by_case (p x) (position_from (λ (y : A). not (p y)) (n + 1) xs) (list_all p xs) (all_of p xs (n + 1)) none
  where
    by_case : (b : Bool) (behind : Option ℕ) (all : Bool) → (behind ≡ None → all ≡ true) → cond (not b) (Some n) behind ≡ None → (b && all) ≡ true
    by_case true behind all more is = more is
    by_case false behind all more is = cc

pub none_fails : {A : Type 0} (p : A → Bool) (xs : List A) (n : ℕ) → position_from (λ (x : A). not (p x)) n xs ≡ None → AllPass p xs
none_fails p xs n none = AllPass-from_list_all p xs (all_of p xs n none)

-- one element that passes
pub passes_on : {A : Type 0} (p : A → Bool) (xs : List A) (i : ℕ) (d : A) → i < length xs → true ≡ p (get_or xs i d)
    → position_from (λ (x : A). not (p x)) (i + 1) (drop i xs) ≡ position_from (λ (x : A). not (p x)) (i + 1 + 1) (drop (i + 1) xs)
passes_on {A} p xs i d within passes =
    ap (position_from (λ (x : A). not (p x)) (i + 1)) (drop_more xs i d within)
    ∙ ap (λ (b : Bool). cond (not b) (Some (i + 1)) (position_from (λ (x : A). not (p x)) (i + 1 + 1) (drop (i + 1) xs))) (sym passes)

-- one that fails
pub fails_here : {A : Type 0} (p : A → Bool) (xs : List A) (i : ℕ) (d : A) → i < length xs → false ≡ p (get_or xs i d) → position_from (λ (x : A). not (p x)) (i + 1) (drop i xs) ≡ Some (i + 1)
fails_here {A} p xs i d within fails =
    ap (position_from (λ (x : A). not (p x)) (i + 1)) (drop_more xs i d within)
    ∙ ap (λ (b : Bool). cond (not b) (Some (i + 1)) (position_from (λ (x : A). not (p x)) (i + 1 + 1) (drop (i + 1) xs))) (sym fails)

-- no element left
pub ends_well : {A : Type 0} (p : A → Bool) (xs : List A) (i n : ℕ) → length xs ≤ i → position_from (λ (x : A). not (p x)) n (drop i xs) ≡ None
ends_well {A} p xs i n past = ap (position_from (λ (x : A). not (p x)) n) (drop_all i xs past)
