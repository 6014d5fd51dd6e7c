-- The words that an iterator still has.
use Rattle.std.proofs.Common.{◌≡◌, ℕ, List, [], ◌∷◌, ◌++◌, length, map, drop, refl, sym, ◌∙◌, ap, arith, append-nil, Option, Some, None, Result, Ok, Err}
use Rattle.std.specs.Prelude.{option_to_list, IfOk, IfErr}

-- nothing is left of a list without length
nothing : {X : Type 0} (xs : List X) → length xs ≡ 0 → xs ≡ []
nothing [] none = refl
nothing (x ∷ xs) none = absurd (omega arith)

-- behind the first
pub first_gone : {X : Type 0} (f : X → List ℕ) (all rest : List X) (first : Option X) (words : List (List ℕ)) → all ≡ option_to_list first ++ rest → (first ≡ None → length all ≡ 0) → words ≡ []
    → words ++ map f rest ≡ drop 1 (map f all)
first_gone f all rest None words is none empty =
    let no_more : all ≡ [] = nothing all (none refl) in
    let no_rest : rest ≡ [] = sym is ∙ no_more in
    rw (empty, no_rest, no_more) refl
first_gone f all rest (Some x) words is none empty = rw (empty, is) refl

-- all were taken
pub all_gone : {X : Type 0} (f : X → List ℕ) (rest : List X) (words wanted : List (List ℕ)) → length rest ≡ 0 → words ++ map f rest ≡ wanted → words ≡ wanted
all_gone f rest words wanted none so_far =
    let no_rest : rest ≡ [] = nothing rest none in
    sym (ap (λ (left : List _). words ++ map f left) no_rest ∙ append-nil words) ∙ so_far

-- what holds of a value, where there is one, gives what follows from it
pub ok_map : {A E : Type 0} {P Q : A → Type 0} (r : Result A E) → IfOk r P → ((a : A) → P a → Q a) → IfOk r Q
ok_map (Ok a) holds step = step a holds
ok_map (Err e) holds step = tt

-- and so does what holds of an error
pub err_map : {A E : Type 0} {P Q : E → Type 0} (r : Result A E) → IfErr r P → ((e : E) → P e → Q e) → IfErr r Q
err_map (Ok a) holds step = tt
err_map (Err e) holds step = step e holds
