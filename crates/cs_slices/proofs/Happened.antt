-- What happened, at one more happening.
use Rattle.std.proofs.Common.{◌≡◌, ℕ, Bool, true, false, cond, eqb, List, [], ◌∷◌, ◌++◌, refl, ap, ◌∙◌, append-nil}
use Rattle.std.specs.Prelude.{filter_map}
use Rattle.std.specs.List.{after_last}
use Rattle.std.proofs.lemmas.List.Elements.{filter_map-append}
use Rattle.histories.proofs.Lasts.{after_last_passes, after_last_other, after_last_more}
use Rattle.cs_slices.specs.Happenings.{Slice, Happening, order_in, slice_in, is_read, renews, orders_among, slices_among, since_slice, orders_since, slices_since}
use Rattle.cs_slices.specs.Happenings.Happening.{Ordered, Read, Renewed}
use Rattle.cs_slices.specs.declared.instructions.Instruction.{Instruction}

-- nothing
pub orders_none : orders_among [] ≡ []
unfolding orders_among
orders_none = refl

pub slices_none : slices_among [] ≡ []
unfolding slices_among
slices_none = refl

pub since_none : since_slice [] ≡ []
unfolding since_slice
since_none = refl

pub orders_since_none : (n : ℕ) → orders_since n [] ≡ []
unfolding orders_since
orders_since_none n = orders_none

pub slices_since_none : (n : ℕ) → slices_since n [] ≡ []
unfolding slices_since
slices_since_none n = slices_none

-- an order
module _ (happened : List Happening) (order : Instruction) where
  pub orders_ordered : orders_among (happened ++ Ordered order ∷ []) ≡ orders_among happened ++ order ∷ []
  unfolding orders_among
  orders_ordered = filter_map-append order_in happened (Ordered order ∷ [])

  pub slices_ordered : slices_among (happened ++ Ordered order ∷ []) ≡ slices_among happened
  unfolding slices_among
  slices_ordered = filter_map-append slice_in happened (Ordered order ∷ []) ∙ append-nil (filter_map slice_in happened)

  pub since_ordered : since_slice (happened ++ Ordered order ∷ []) ≡ since_slice happened ++ Ordered order ∷ []
  unfolding since_slice
  since_ordered = after_last_other is_read happened (Ordered order) refl

-- a slice
module _ (happened : List Happening) (s : Slice) where
  pub orders_read : orders_among (happened ++ Read s ∷ []) ≡ orders_among happened
  unfolding orders_among
  orders_read = filter_map-append order_in happened (Read s ∷ []) ∙ append-nil (filter_map order_in happened)

  pub slices_read : slices_among (happened ++ Read s ∷ []) ≡ slices_among happened ++ s ∷ []
  unfolding slices_among
  slices_read = filter_map-append slice_in happened (Read s ∷ [])

  pub since_read : since_slice (happened ++ Read s ∷ []) ≡ []
  unfolding since_slice
  since_read = after_last_passes is_read happened (Read s) refl

-- a table that becomes active
module _ (happened : List Happening) (m : ℕ) where
  pub orders_renewed : orders_among (happened ++ Renewed m ∷ []) ≡ orders_among happened
  unfolding orders_among
  orders_renewed = filter_map-append order_in happened (Renewed m ∷ []) ∙ append-nil (filter_map order_in happened)

  pub slices_renewed : slices_among (happened ++ Renewed m ∷ []) ≡ slices_among happened
  unfolding slices_among
  slices_renewed = filter_map-append slice_in happened (Renewed m ∷ []) ∙ append-nil (filter_map slice_in happened)

  pub since_renewed : since_slice (happened ++ Renewed m ∷ []) ≡ since_slice happened ++ Renewed m ∷ []
  unfolding since_slice
  since_renewed = after_last_other is_read happened (Renewed m) refl

-- since a table last became active: nothing where it is the one that does
since_renewal : {X : Type 0} (f : List Happening → List X) → f [] ≡ [] → ((happened : List Happening) (m : ℕ) → f (happened ++ Renewed m ∷ []) ≡ f happened) → (n m : ℕ) (happened : List Happening) (b : Bool) → eqb m n ≡ b
    → f (after_last (renews n) (happened ++ Renewed m ∷ [])) ≡ cond b [] (f (after_last (renews n) happened))
since_renewal f none other n m happened b is =
    ap f (after_last_more (renews n) happened (Renewed m)) ∙ ap (λ (t : Bool). f (cond t [] (after_last (renews n) happened ++ Renewed m ∷ []))) is ∙ by_case b
  where
    by_case : (t : Bool) → f (cond t [] (after_last (renews n) happened ++ Renewed m ∷ [])) ≡ cond t [] (f (after_last (renews n) happened))
    by_case true = none
    by_case false = other (after_last (renews n) happened) m

pub orders_since_ordered : (n : ℕ) (happened : List Happening) (order : Instruction) → orders_since n (happened ++ Ordered order ∷ []) ≡ orders_since n happened ++ order ∷ []
unfolding orders_since
orders_since_ordered n happened order = ap orders_among (after_last_other (renews n) happened (Ordered order) refl) ∙ orders_ordered (after_last (renews n) happened) order

pub orders_since_read : (n : ℕ) (happened : List Happening) (s : Slice) → orders_since n (happened ++ Read s ∷ []) ≡ orders_since n happened
unfolding orders_since
orders_since_read n happened s = ap orders_among (after_last_other (renews n) happened (Read s) refl) ∙ orders_read (after_last (renews n) happened) s

pub orders_since_renewed : (n m : ℕ) (happened : List Happening) (b : Bool) → eqb m n ≡ b → orders_since n (happened ++ Renewed m ∷ []) ≡ cond b [] (orders_since n happened)
unfolding orders_since
orders_since_renewed n m happened b is = since_renewal orders_among orders_none orders_renewed n m happened b is

pub slices_since_ordered : (n : ℕ) (happened : List Happening) (order : Instruction) → slices_since n (happened ++ Ordered order ∷ []) ≡ slices_since n happened
unfolding slices_since
slices_since_ordered n happened order = ap slices_among (after_last_other (renews n) happened (Ordered order) refl) ∙ slices_ordered (after_last (renews n) happened) order

pub slices_since_read : (n : ℕ) (happened : List Happening) (s : Slice) → slices_since n (happened ++ Read s ∷ []) ≡ slices_since n happened ++ s ∷ []
unfolding slices_since
slices_since_read n happened s = ap slices_among (after_last_other (renews n) happened (Read s) refl) ∙ slices_read (after_last (renews n) happened) s

pub slices_since_renewed : (n m : ℕ) (happened : List Happening) (b : Bool) → eqb m n ≡ b → slices_since n (happened ++ Renewed m ∷ []) ≡ cond b [] (slices_since n happened)
unfolding slices_since
slices_since_renewed n m happened b is = since_renewal slices_among slices_none slices_renewed n m happened b is
