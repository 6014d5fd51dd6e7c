-- Items that are written over those that lie behind the others.
use Rattle.std.proofs.Common.{◌≡◌, ◌∙◌, ◌<◌, ◌+◌, ℕ, List, [], ◌∷◌, ◌++◌, length, take, set, get_or, sym, ap, append_assoc}
use Rattle.std.proofs.lemmas.List.{take_more, take_more_set}
use Rattle.bus_pipes.specs.Held.{Held, adding}

-- the place behind the items, once an item was written there and is counted
pub placed : {X : Type 0} (places : List X) (count room : ℕ) (item wanted : X) (held : Held X) → count < length places → record { items = take count places; room = room } ≡ held → item ≡ wanted
    → record { items = take (count + 1) (set places count item); room = room } ≡ adding held (wanted ∷ [])
unfolding adding
placed {X} places count room item wanted held within is same =
    ap (λ (items : List X). (let x : Held X = record { items = items; room = room } in x)) (take_more_set places count item within ∙ ap (λ (one : X). take count places ++ one ∷ []) same)
    ∙ ap (λ (h : Held X). adding h (wanted ∷ [])) is

-- the first of some items behind those of before, and one more
pub front_placed : {X : Type 0} (old items : List X) (before now : Held X) (i : ℕ) (item : X) → i < length items → item ≡ get_or items i item → before.items ≡ old ++ take i items → now ≡ adding before (item ∷ [])
    → now.items ≡ old ++ take (i + 1) items
unfolding adding
front_placed {X} old items before now i item within at was is =
    ap (λ (held : Held X). held.items) is ∙ ap (λ (front : List X). front ++ item ∷ []) was ∙ append_assoc old (take i items) (item ∷ [])
    ∙ ap (λ (front : List X). old ++ front) (ap (λ (one : X). take i items ++ one ∷ []) at ∙ sym (take_more items i item within))
