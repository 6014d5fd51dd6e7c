-- Words over lists, the oldest element first.
use Rattle.std.specs.Prelude.{ℕ, suc, Bool, if◌then◌else◌, List, [], ◌∷◌, ◌++◌}
use Rattle.std.specs.List.{list_any, flat_map, fold}

-- what f gives at each element, of the elements before it and of itself, behind some elements
unfoldable pub along_after : {A B : Type 0} → (List A → A → B) → List A → List A → List B
along_after f before [] = []
along_after f before (x ∷ xs) = f before x ∷ along_after f (before ++ x ∷ []) xs

-- what f gives at each element, of the elements before it and of itself
unfoldable pub along : {A B : Type 0} → (List A → A → B) → List A → List B
along f xs = along_after f [] xs

-- the elements from the last that passes p on, that one included, or all where none passes
unfoldable pub from_last : {A : Type 0} → (A → Bool) → List A → List A
from_last p [] = []
from_last p (x ∷ xs) = if list_any p xs then from_last p xs else x ∷ xs

-- the last element, or d where there is none
unfoldable pub last_or : {A : Type 0} → A → List A → A
last_or d [] = d
last_or d (x ∷ xs) = last_or x xs

-- the place of the last element that passes p, or 0 where none passes
unfoldable pub last_place : {A : Type 0} → (A → Bool) → List A → ℕ
last_place p [] = 0
last_place p (x ∷ xs) = if list_any p xs then suc (last_place p xs) else 0

-- each element with what f gives at it, of the elements before it with what f gave at them, and of itself
unfoldable pub decided : {A B : Type 0} → (List (A × B) → A → B) → List A → List (A × B)
decided f xs = fold (λ earlier x. earlier ++ (x, f earlier x) ∷ []) [] xs

-- What f gives along a list, one after another.
unfoldable pub joined_along : {A B : Type 0} → (List A → A → List B) → List A → List B
joined_along f xs = flat_map (λ given. given) (along f xs)
