-- `along` and `decided` at one more element.
use Rattle.std.proofs.Common.{◌≡◌, suc, List, [], ◌∷◌, ◌++◌, refl, sym, ◌∙◌, ap, arith, append_assoc, append-nil}
use Rattle.std.proofs.lemmas.List.Sums.{fold_push}
use Rattle.std.specs.List.{All, flat_map}
use Rattle.std.proofs.lemmas.List.Elements.{All-append}
use Rattle.histories.specs.Words.{along, along_after, joined_along, decided}
use Rattle.histories.proofs.Fronts.{flat_map_more, none_fail, flat_map_both}

-- behind some elements, at one more
along_after_more : {A B : Type 0} (f : List A → A → B) (before xs : List A) (x : A) → along_after f before (xs ++ x ∷ []) ≡ along_after f before xs ++ f (before ++ xs) x ∷ []
unfolding along_after
along_after_more f before [] x = ap (λ front. f front x ∷ []) (sym (append-nil before))
along_after_more f before (y ∷ ys) x =
    ap (λ more. f before y ∷ more) (along_after_more f (before ++ y ∷ []) ys x
    ∙ ap (λ front. along_after f (before ++ y ∷ []) ys ++ f front x ∷ []) (append_assoc before (y ∷ []) ys))

-- at one more element
pub along_more : {A B : Type 0} (f : List A → A → B) (xs : List A) (x : A) → along f (xs ++ x ∷ []) ≡ along f xs ++ f xs x ∷ []
unfolding along
along_more f xs x = along_after_more f [] xs x

-- of one list behind another, behind some elements
along_after_both : {A B : Type 0} (f : List A → A → B) (before xs ys : List A) → along_after f before (xs ++ ys) ≡ along_after f before xs ++ along_after f (before ++ xs) ys
unfolding along_after
along_after_both f before [] ys = ap (λ front. along_after f front ys) (sym (append-nil before))
along_after_both f before (x ∷ xs) ys =
    ap (λ more. f before x ∷ more) (along_after_both f (before ++ x ∷ []) xs ys
    ∙ ap (λ front. along_after f (before ++ x ∷ []) xs ++ along_after f front ys) (append_assoc before (x ∷ []) xs))

-- what stands in front can be a part of the function
along_after_front : {A B : Type 0} (f : List A → A → B) (front before xs : List A) → along_after f (front ++ before) xs ≡ along_after (λ earlier x. f (front ++ earlier) x) before xs
unfolding along_after
along_after_front f front before [] = refl
along_after_front f front before (x ∷ xs) =
    ap (λ more. f (front ++ before) x ∷ more) (ap (λ earlier. along_after f earlier xs) (append_assoc front before (x ∷ [])) ∙ along_after_front f front (before ++ x ∷ []) xs)

-- of one list behind another
pub along_both : {A B : Type 0} (f : List A → A → B) (xs ys : List A) → along f (xs ++ ys) ≡ along f xs ++ along (λ earlier y. f (xs ++ earlier) y) ys
unfolding along
along_both f xs ys =
    along_after_both f [] xs ys ∙ ap (λ more. along_after f [] xs ++ more) (ap (λ front. along_after f front ys) (sym (append-nil xs)) ∙ along_after_front f xs [] ys)

-- of no elements
pub along_none : {A B : Type 0} (f : List A → A → B) → along f [] ≡ []
unfolding along along_after
along_none f = refl

-- of as many elements
along_after_same : {A B : Type 0} (f g : List A → A → B) → ((before : List A) (x : A) → f before x ≡ g before x) → (before xs : List A) → along_after f before xs ≡ along_after g before xs
unfolding along_after
along_after_same f g same before [] = refl
along_after_same f g same before (x ∷ xs) =
    ap (λ y. y ∷ along_after f (before ++ x ∷ []) xs) (same before x) ∙ ap (λ ys. g before x ∷ ys) (along_after_same f g same (before ++ x ∷ []) xs)

-- two functions that agree at each element
pub along_same : {A B : Type 0} (f g : List A → A → B) → ((before : List A) (x : A) → f before x ≡ g before x) → (xs : List A) → along f xs ≡ along g xs
unfolding along
along_same f g same xs = along_after_same f g same [] xs

-- decisions at one more element
pub decided_more : {A B : Type 0} (f : List (A × B) → A → B) (xs : List A) (x : A) → decided f (xs ++ x ∷ []) ≡ decided f xs ++ (x, f (decided f xs) x) ∷ []
unfolding decided
decided_more {A} {B} f xs x = fold_push (λ (earlier : List (A × B)) (y : A). earlier ++ (y, f earlier y) ∷ []) [] xs x

-- decisions on no elements
pub decided_none : {A B : Type 0} (f : List (A × B) → A → B) → decided f [] ≡ []
unfolding decided
decided_none f = refl

-- what is given along a list, at one more element
pub joined_more : {A B : Type 0} (f : List A → A → List B) (xs : List A) (x : A) → joined_along f (xs ++ x ∷ []) ≡ joined_along f xs ++ f xs x
unfolding joined_along
joined_more {A} {B} f xs x = ap (flat_map (λ (given : List B). given)) (along_more f xs x) ∙ flat_map_more (λ (given : List B). given) (along f xs) (f xs x)

-- along one list behind another
pub joined_both : {A B : Type 0} (f : List A → A → List B) (xs ys : List A) → joined_along f (xs ++ ys) ≡ joined_along f xs ++ joined_along (λ earlier y. f (xs ++ earlier) y) ys
unfolding joined_along
joined_both {A} {B} f xs ys =
    ap (flat_map (λ (given : List B). given)) (along_both f xs ys)
    ∙ flat_map_both (λ (given : List B). given) (along f xs) (along (λ earlier y. f (xs ++ earlier) y) ys)

-- along no elements
pub joined_none : {A B : Type 0} (f : List A → A → List B) → joined_along f [] ≡ []
unfolding joined_along
joined_none {A} {B} f = ap (flat_map (λ (given : List B). given)) (along_none f)

-- by two functions that agree at each element
pub joined_same : {A B : Type 0} (f g : List A → A → List B) → ((before : List A) (x : A) → f before x ≡ g before x) → (xs : List A) → joined_along f xs ≡ joined_along g xs
unfolding joined_along
joined_same {A} {B} f g same xs = ap (flat_map (λ (given : List B). given)) (along_same f g same xs)

-- a fact of all that is given
after_each : {A B : Type 0} (P : B → Type 0) (f : List A → A → List B) → ((before : List A) (x : A) → All P (f before x)) → (before xs : List A) → All P (flat_map (λ (given : List B). given) (along_after f before xs))
unfolding along_after
after_each P f each before [] = none_fail P
after_each P f each before (x ∷ xs) = All-append P _ _ (each before x) (after_each P f each (before ++ x ∷ []) xs)

pub joined_each : {A B : Type 0} (P : B → Type 0) (f : List A → A → List B) → ((before : List A) (x : A) → All P (f before x)) → (xs : List A) → All P (joined_along f xs)
unfolding joined_along along
joined_each P f each xs = after_each P f each [] xs

-- the same where it needs a fact of each element
among_after : {A B : Type 0} (Q : A → Type 0) (P : B → Type 0) (f : List A → A → List B) → ((before : List A) (x : A) → Q x → All P (f before x)) → (before xs : List A) → All Q xs
    → All P (flat_map (λ (given : List B). given) (along_after f before xs))
unfolding along_after
among_after Q P f each before [] all = none_fail P
among_after Q P f each before (x ∷ xs) all =
    All-append P _ _ (each before x (all 0 x (omega arith))) (among_after Q P f each (before ++ x ∷ []) xs (λ k d within. all (suc k) d (omega arith)))

pub joined_among : {A B : Type 0} (Q : A → Type 0) (P : B → Type 0) (f : List A → A → List B) → ((before : List A) (x : A) → Q x → All P (f before x)) → (xs : List A) → All Q xs → All P (joined_along f xs)
unfolding joined_along along
joined_among Q P f each xs all = among_after Q P f each [] xs all
