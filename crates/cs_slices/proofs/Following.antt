-- The next slice: its place, its size, and the slice that it follows.
use Rattle.std.proofs.Common.{◌≡◌, ◌≢◌, ℕ, ◌+◌, ◌-◌, ◌%◌, ◌<◌, ◌≤◌, Bool, true, false, cond, not, ◌&&◌, inl, inr, List, [], ◌∷◌, ◌++◌, length, map, drop, min, refl, sym, ap, subst, ◌∙◌, arith, length-take}
use Rattle.std.specs.Prelude.{Option, Some, None, find, option_map, ◌==◌}
use Rattle.std.specs.List.{list_any, range_with_len}
use Rattle.std.proofs.lemmas.Bool.{eqb-true}
use Rattle.histories.proofs.Lasts.{last_cases}
use Rattle.memory_window.specs.Memory.{Memory}
use Rattle.cs_slices.specs.Tables.{TablePair, entry_in}
use Rattle.cs_slices.specs.Happenings.{Slice, Happening, slices_among, since_slice}
use Rattle.cs_slices.specs.Orders.{takes_part, breaks_off}
use Rattle.cs_slices.specs.Slices.{current_place, goes_on, offset_at, entry_bytes, slice_size, slice_from, ring_from, next_slice}
use Rattle.cs_slices.specs.declared.segments.Segment.{Segment}
use Rattle.cs_slices.proofs.Passes.{offset_more, offset_none}

-- the place of the next slice
pub next_is : (tables : TablePair) (happened : List Happening) (image : Memory) (s : Slice) → next_slice tables happened image ≡ Some s
    → (place : ℕ) × (find (takes_part tables happened) (ring_from (current_place (slices_among happened))) ≡ Some place) × (slice_from image (entry_in tables place) place (offset_at place (slices_among happened) (since_slice happened)) ≡ s)
unfolding next_slice
next_is tables happened image s is = by_found (find (takes_part tables happened) (ring_from (current_place (slices_among happened)))) is
  where
    by_found : (o : Option ℕ) → option_map (λ (place : ℕ). slice_from image (entry_in tables place) place (offset_at place (slices_among happened) (since_slice happened))) o ≡ Some s
        → (place : ℕ) × (o ≡ Some place) × (slice_from image (entry_in tables place) place (offset_at place (slices_among happened) (since_slice happened)) ≡ s)
    by_found None is = cc
    by_found (Some place) is = (place, refl, cc)

-- what is found among these numbers
found_among : (p : ℕ → Bool) (f : ℕ → ℕ) → ((k : ℕ) → f k < 32) → (ks : List ℕ) (x : ℕ) → find p (map f ks) ≡ Some x → (p x ≡ true) × (x < 32)
found_among p f small [] x is = cc
found_among p f small (k ∷ ks) x is = by_test (λ rest. found_among p f small ks x rest) (p (f k)) refl is
  where
    by_test : (find p (map f ks) ≡ Some x → (p x ≡ true) × (x < 32)) → (b : Bool) → p (f k) ≡ b → cond b (Some (f k)) (find p (map f ks)) ≡ Some x → (p x ≡ true) × (x < 32)
    by_test go true passes here = let same : f k ≡ x = cc in (subst (λ (n : ℕ). p n ≡ true) same passes, subst (λ (n : ℕ). n < 32) same (small k))
    by_test go false fails later = go later

small_place : (place k : ℕ) → (place + k) % 32 < 32
small_place place k = omega arith

pub found_part : (p : ℕ → Bool) (place x : ℕ) → find p (ring_from place) ≡ Some x → (p x ≡ true) × (x < 32)
unfolding ring_from
found_part p place x is = found_among p (λ (k : ℕ). (place + k) % 32) (λ k. small_place place k) (range_with_len 0 32) x is

short_min : (n : ℕ) → min 1024 n ≤ 1024
short_min n = omega arith

pub short_slice : (image : Memory) (e : Segment) (place from : ℕ) → length (slice_from image e place from).bytes ≤ 1024
unfolding slice_from
short_slice image e place from = let few = length-take (slice_size e from) (drop from (entry_bytes image e)) in let small = short_min (e.len - from) in omega arith

-- the slice that one follows which doesn't begin at its entry's first byte
pub offset_follows : (place : ℕ) (slices : List Slice) (since : List Happening) → offset_at place slices since ≢ 0
    → (earlier : List Slice) × (last : Slice) × (slices ≡ earlier ++ last ∷ []) × (last.place ≡ place) × (last.till ≡ offset_at place slices since) × (last.ends ≡ false)
offset_follows place slices since some = elim (last_cases slices) [
  | inl none ↦ absurd (some (ap (λ (xs : List Slice). offset_at place xs since) none ∙ offset_none place since))
  | inr found ↦ by_going found.0 found.1 found.2 (goes_on place since found.1) refl
]
  where
    first_of_three : (a b c : Bool) → (a && b && c) ≡ true → a ≡ true
    first_of_three true b c h = refl
    first_of_three false b c h = cc

    second_of_three : (a b c : Bool) → (a && not b && c) ≡ true → b ≡ false
    second_of_three true true c h = cc
    second_of_three true false c h = refl
    second_of_three false b c h = cc

    at : (earlier : List Slice) (last : Slice) (b : Bool) → slices ≡ earlier ++ last ∷ [] → goes_on place since last ≡ b → offset_at place slices since ≡ cond b last.till 0
    at earlier last b is going = ap (λ (xs : List Slice). offset_at place xs since) is ∙ offset_more place earlier last since ∙ ap (λ (c : Bool). cond c last.till 0) going

    by_going : (earlier : List Slice) (last : Slice) → slices ≡ earlier ++ last ∷ [] → (b : Bool) → goes_on place since last ≡ b
        → (earlier : List Slice) × (last : Slice) × (slices ≡ earlier ++ last ∷ []) × (last.place ≡ place) × (last.till ≡ offset_at place slices since) × (last.ends ≡ false)
    by_going earlier last is false going = absurd (some (at earlier last false is going))
    by_going earlier last is true going =
        let rest = not (list_any (breaks_off place) since) in
        (earlier, last, is, eqb-true last.place place (first_of_three (last.place == place) (not last.ends) rest going), sym (at earlier last true is going), second_of_three (last.place == place) last.ends rest going)

-- and nothing broke its pass off since
pub offset_unbroken : (place : ℕ) (slices : List Slice) (since : List Happening) → offset_at place slices since ≢ 0 → list_any (breaks_off place) since ≡ false
offset_unbroken place slices since some = elim (last_cases slices) [
  | inl none ↦ absurd (some (ap (λ (xs : List Slice). offset_at place xs since) none ∙ offset_none place since))
  | inr found ↦ by_going found.0 found.1 found.2 (goes_on place since found.1) refl
]
  where
    third_of_three : (a b c : Bool) → (a && b && not c) ≡ true → c ≡ false
    third_of_three true true true h = cc
    third_of_three true true false h = refl
    third_of_three true false c h = cc
    third_of_three false b c h = cc

    by_going : (earlier : List Slice) (last : Slice) → slices ≡ earlier ++ last ∷ [] → (b : Bool) → goes_on place since last ≡ b → list_any (breaks_off place) since ≡ false
    by_going earlier last is false going =
        absurd (some (ap (λ (xs : List Slice). offset_at place xs since) is ∙ offset_more place earlier last since ∙ ap (λ (c : Bool). cond c last.till 0) going))
    by_going earlier last is true going = third_of_three (last.place == place) (not last.ends) (list_any (breaks_off place) since) going
