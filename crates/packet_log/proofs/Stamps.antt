-- The counts of the packets that were stamped.
use Rattle.std.proofs.Common.{◌≡◌, ◌<◌, ◌≤◌, ◌≢◌, ◌+◌, ◌%◌, ℕ, Bool, true, false, cond, inl, inr, List, [], ◌∷◌, ◌++◌, length, get_or, set, refl, sym, ap, ◌∙◌, arith, eq-eqb}
use Rattle.std.specs.Prelude.{Some, None, ◌==◌, position}
use Rattle.std.specs.List.{list_any, position_or_len}
use Rattle.std.proofs.lemmas.List.{get_or-set_same, get_or-set_other, get_or-replicate, length-set}
use Rattle.std.proofs.lemmas.List.Quantifiers.{position-Some}
use Rattle.std.proofs.lemmas.List.Sums.{fails_before_first}
use Rattle.std.proofs.lemmas.List.Folds.{Any-from_list_any}
use Rattle.std.proofs.lemmas.Bool.{ltb-false, ne_eqb}
use Rattle.std.proofs.lemmas.Bool.Decides.{eqb_tells, nat_tests}
use Rattle.packet_forms.specs.Packets.{message_id}
use Rattle.packet_forms.specs.Built.{with_sequence}
use Rattle.bus_pipes.specs.Counted.{counted_ids, is_counted}
use Rattle.bus_pipes.specs.Pipes.{count_of_id}
use Rattle.bus_pipes.proofs.Deliveries.{count_of_both}
use Rattle.packet_log.specs.Counts.{count_place, count_of, stamped}
use Rattle.packet_log.specs.Standing.{Stands}

passes_equal : (a b : ℕ) → (a == b) ≡ true → a ≡ b
passes_equal a b h = grind (arith, nat_tests)

-- a place is within the table
pub place_within : (id k : ℕ) → count_place id ≡ Some k → k < 14
unfolding count_place
place_within id k h = (position-Some (λ (counted : ℕ). counted == id) counted_ids k 0 h).0

-- and has its id there
place_has : (id k : ℕ) → count_place id ≡ Some k → get_or counted_ids k 0 ≡ id
unfolding count_place
place_has id k h = passes_equal _ _ (position-Some (λ (counted : ℕ). counted == id) counted_ids k 0 h).1

no_place : (b : Bool) (n : ℕ) → cond b (Some n) None ≡ None → b ≡ false
no_place true n h = cc
no_place false n h = refl

true_false : (b : Bool) → b ≡ true → b ≡ false → ⊥
true_false b e f = cc

-- where a test passes for some element, it has a first place
none_passes : (p : ℕ → Bool) (xs : List ℕ) → list_any p xs ≡ true → position p xs ≡ None → ⊥
none_passes p xs some none =
    let found = Any-from_list_any p xs some in
    let long : length xs ≤ position_or_len p xs = ltb-false _ _ (no_place _ _ none) in
    let fails : p (get_or xs found.0 found.1) ≡ false = fails_before_first p xs found.0 found.1 (omega (arith, found.2, long)) in
    true_false (p (get_or xs found.0 found.1)) (ap p found.3 ∙ found.4) fails

-- an id that gets counts has a place
pub place_there : (id : ℕ) → is_counted id ≡ true → (count_place id ≡ None → ⊥)
unfolding count_place is_counted
place_there id h none = none_passes (λ (counted : ℕ). counted == id) counted_ids h none

pub count_none : (id : ℕ) → count_of [] id ≡ 0
unfolding count_of count_of_id
count_none id = refl

-- nothing was stamped
pub none_stamped : Stands [] (0 ∷ 0 ∷ 0 ∷ 0 ∷ 0 ∷ 0 ∷ 0 ∷ 0 ∷ 0 ∷ 0 ∷ 0 ∷ 0 ∷ 0 ∷ 0 ∷ [])
none_stamped = record { whole = refl; each = λ id k h. get_or-replicate 14 k 0 0 (place_within id k h) ∙ sym (count_none id) }

-- one packet more of an id, and of another
count_one : (p : List ℕ) (id : ℕ) → count_of_id id (p ∷ []) ≡ cond (message_id p == id) 1 0
unfolding count_of_id
count_one p id = omega arith

pub count_same : (made : List (List ℕ)) (p : List ℕ) → count_of (made ++ p ∷ []) (message_id p) ≡ (count_of made (message_id p) + 1) % 16384
unfolding count_of
count_same made p =
    let both = count_of_both (message_id p) made (p ∷ []) in
    let one : count_of_id (message_id p) (p ∷ []) ≡ 1 = count_one p (message_id p) ∙ ap (λ (b : Bool). cond b 1 0) (eq-eqb (message_id p) (message_id p) refl) in
    omega arith

pub count_other : (made : List (List ℕ)) (p : List ℕ) (id : ℕ) → message_id p ≢ id → count_of (made ++ p ∷ []) id ≡ count_of made id
unfolding count_of
count_other made p id other =
    let both = count_of_both id made (p ∷ []) in
    let none : count_of_id id (p ∷ []) ≡ 0 = count_one p id ∙ ap (λ (b : Bool). cond b 1 0) (ne_eqb (message_id p) id other) in
    omega arith

same_place : (a b k : ℕ) → count_place a ≡ Some k → count_place b ≡ Some k → a ≡ b
same_place a b k h i = sym (place_has a k h) ∙ place_has b k i

same_some : (j k : ℕ) → Some j ≡ Some k → j ≡ k
same_some j k h = cc

one_each : (made : List (List ℕ)) (counts : List ℕ) (p : List ℕ) (k : ℕ) → Stands made counts → count_place (message_id p) ≡ Some k → (id j : ℕ) → count_place id ≡ Some j → get_or (set counts k ((get_or counts k 0 + 1) % 16384)) j 0 ≡ count_of (made ++ p ∷ []) id
one_each made counts p k s at id j h = elim (eqb_tells j k) [
  | inl same ↦
      let within : k < length counts = rw s.whole (place_within (message_id p) k at) in
      ap (λ (i : ℕ). get_or (set counts k ((get_or counts k 0 + 1) % 16384)) i 0) same.1
      ∙ get_or-set_same counts k ((get_or counts k 0 + 1) % 16384) 0 within
      ∙ ap (λ (n : ℕ). (n + 1) % 16384) (s.each (message_id p) k at)
      ∙ sym (count_same made p)
      ∙ ap (count_of (made ++ p ∷ [])) (same_place (message_id p) id k at (h ∙ ap (λ (i : ℕ). Some i) same.1))
  | inr other ↦
      get_or-set_other counts k j ((get_or counts k 0 + 1) % 16384) 0 other.1
      ∙ s.each id j h
      ∙ sym (count_other made p id (λ e. other.1 (same_some j k (sym h ∙ ap count_place (sym e) ∙ at))))
]

-- one packet more
pub one_stamped : (made : List (List ℕ)) (counts : List ℕ) (p : List ℕ) (k : ℕ) → Stands made counts → count_place (message_id p) ≡ Some k → Stands (made ++ p ∷ []) (set counts k ((get_or counts k 0 + 1) % 16384))
one_stamped made counts p k s at = record {
  whole = length-set counts k _ ∙ s.whole;
  each = λ id j h. one_each made counts p k s at id j h;
}

-- the packet with the count of its place
pub stamped_by : (made : List (List ℕ)) (counts : List ℕ) (p : List ℕ) (k : ℕ) → Stands made counts → count_place (message_id p) ≡ Some k → with_sequence (get_or counts k 0) p ≡ stamped made p
unfolding stamped
stamped_by made counts p k s at = ap (λ (n : ℕ). with_sequence n p) (s.each (message_id p) k at)

-- the packet with the count of its id
pub stamped_with : (made : List (List ℕ)) (p : List ℕ) (id n : ℕ) → id ≡ message_id p → n ≡ count_of made id → with_sequence n p ≡ stamped made p
unfolding stamped
stamped_with made p id n same is = ap (λ (k : ℕ). with_sequence k p) (is ∙ ap (count_of made) same)
