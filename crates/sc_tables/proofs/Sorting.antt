-- Places that were sorted by time and number spell the commands in order.
use Rattle.std.proofs.Common.{◌≡◌, ℕ, suc, ◌+◌, ◌<◌, ◌≤◌, Bool, true, false, ◌&&◌, ◌||◌, List, ◌++◌, length, take, drop, get_or, Ordering, Less, Equal, Greater, cond, refl, sym, ap, ◌∙◌, subst, add-one, arith, length-take-le}
use Rattle.std.specs.Prelude.{◌==◌, nat_eq, nat_lt}
use Rattle.std.specs.Ordering.{nat_cmp, ordering_then, is_lt}
use Rattle.std.specs.List.{IsDistinct}
use Rattle.std.specs.List.Sorted.{IsPermutation, IsSortedBy, IsSortedByKey}
use Rattle.std.proofs.lemmas.Bool.{eqb-false}
use Rattle.std.proofs.lemmas.Cmp.{nat_eq_equiv}
use Rattle.std.proofs.lemmas.List.{get_or-map, length-map, take_at}
use Rattle.std.proofs.lemmas.List.Sorted.{All-permutation, IsPermutation-map, length_permutation}
use Rattle.std.proofs.lemmas.Map.Keys.{apart_from_distinct, IsDistinct-IsPermutation}
use Rattle.sc_tables.specs.declared.absolute.Timed.{Timed}
use Rattle.sc_tables.specs.declared.absolute.Place.{Place}
use Rattle.sc_tables.specs.Absolute.{timed_at, numbers_of, comes_before, in_order, ats_of}
use Rattle.sc_tables.specs.Places.{timed_in, place_before, IsPlaced, ArePlaced, AreInOrder, AreStored, AreOrdered}
use Rattle.sc_tables.specs.Grammar.{entries_in}
use Rattle.sc_tables.proofs.Orders.{Rises, IsBefore, after, rises_by_neighbours, in_order_is, pairs_rise}

-- the order of pairs, as std has it
pair_test : (a b c d : ℕ) → is_lt (ordering_then (nat_cmp a b) (nat_cmp c d)) ≡ (nat_lt a b || ((a == b) && nat_lt c d))
pair_test a b c d = by_tests (nat_lt a b) (a == b) (nat_lt c d) (c == d)
  where
    by_tests : (lower same low equal : Bool) → is_lt (ordering_then (cond lower Less (cond same Equal Greater)) (cond low Less (cond equal Equal Greater))) ≡ (lower || (same && low))
    by_tests true same low equal = refl
    by_tests false true true equal = refl
    by_tests false true false true = refl
    by_tests false true false false = refl
    by_tests false false low equal = refl

abbrev pub pair_cmp : ℕ × ℕ → ℕ × ℕ → Ordering
pair_cmp x y = ordering_then (nat_cmp x.0 y.0) (nat_cmp x.1 y.1)

abbrev pub key_of : Place → ℕ × ℕ
key_of p = (p.tag, p.number)

pub sorted_by_place : (places : List Place) → IsSortedByKey key_of pair_cmp places → IsSortedBy place_before places
unfolding place_before
sorted_by_place places sorted k d least within =
    let next : Place = get_or places (k + 1) d in
    let here : Place = get_or places k d in
    sym (pair_test next.tag here.tag next.number here.number) ∙ sorted k d least within

-- the command in a place
no_place : Place
no_place = record { tag = 0; number = 0; at = 0 }

command_before : (payload : List ℕ) (p q : Place) → IsPlaced payload p → IsPlaced payload q → comes_before (timed_at (drop p.at payload)) (timed_at (drop q.at payload)) ≡ place_before p q
unfolding comes_before place_before timed_at
command_before payload p q here there = rw (here.tag, here.number, there.tag, there.number) refl

module _ (payload : List ℕ) (places : List Place) (placed : ArePlaced payload places) (sorted : IsSortedBy place_before places) (apart : IsDistinct nat_eq (numbers_of (timed_in payload places))) where
  at_place : (k : ℕ) (d : Timed) → k < length places → get_or (timed_in payload places) k d ≡ timed_at (drop (get_or places k no_place).at payload)
  at_place k d below = get_or-map (λ (p : Place). timed_at (drop p.at payload)) places k no_place d below

  differ : (k : ℕ) (d : Timed) → suc k < length places → (get_or (timed_in payload places) k d).number ≡ (get_or (timed_in payload places) (suc k) d).number → ⊥
  differ k d below same =
      let long : length (timed_in payload places) ≡ length places = length-map places (λ (p : Place). timed_at (drop p.at payload)) in
      let first = get_or-map (λ (c : Timed). c.number) (timed_in payload places) k d 0 (omega arith) in
      let next = get_or-map (λ (c : Timed). c.number) (timed_in payload places) (suc k) d 0 (omega arith) in
      let numbers : length (numbers_of (timed_in payload places)) ≡ length (timed_in payload places) = length-map (timed_in payload places) (λ (c : Timed). c.number) in
      eqb-false _ _ (apart_from_distinct nat_eq (numbers_of (timed_in payload places)) k (suc k) 0 apart (omega arith) (omega arith)) (first ∙ (same ∙ sym next))

  neighbours : (k : ℕ) (d : Timed) → suc k < length (timed_in payload places) → IsBefore (get_or (timed_in payload places) k d) (get_or (timed_in payload places) (suc k) d)
  neighbours k d within =
      let long : length (timed_in payload places) ≡ length places = length-map places (λ (p : Place). timed_at (drop p.at payload)) in
      let below : suc k < length places = omega arith in
      let before : k < length places = omega arith in
      let one : k + 1 ≡ suc k = add-one k in
      let test : place_before (get_or places (suc k) no_place) (get_or places k no_place) ≡ false
      = subst (λ (n : ℕ). place_before (get_or places n no_place) (get_or places k no_place) ≡ false) one (sorted k no_place (omega arith) (omega arith)) in
      let same = command_before payload (get_or places (suc k) no_place) (get_or places k no_place) (placed (suc k) no_place below) (placed k no_place before) in
      after (get_or (timed_in payload places) k d) (get_or (timed_in payload places) (suc k) d) (differ k d below)
      (rw (at_place k d before, at_place (suc k) d below) (same ∙ test))

  pub places_rise : Rises (timed_in payload places)
  places_rise = rises_by_neighbours (timed_in payload places) neighbours

pub sorted_places : (payload : List ℕ) (stored sorted : List Place) → ArePlaced payload stored → IsDistinct nat_eq (numbers_of (timed_in payload stored)) → IsPermutation stored sorted → IsSortedBy place_before sorted
    → (ArePlaced payload sorted) × (AreInOrder (timed_in payload sorted)) × (timed_in payload sorted ≡ in_order (timed_in payload stored))
sorted_places payload stored sorted placed apart moved order =
    let there : ArePlaced payload sorted = All-permutation (IsPlaced payload) stored sorted moved placed in
    let commands : IsPermutation (timed_in payload stored) (timed_in payload sorted) = IsPermutation-map (λ (p : Place). timed_at (drop p.at payload)) stored sorted moved in
    let numbers = IsPermutation-map (λ (c : Timed). c.number) (timed_in payload stored) (timed_in payload sorted) commands in
    let still : IsDistinct nat_eq (numbers_of (timed_in payload sorted)) = IsDistinct-IsPermutation nat_eq nat_eq_equiv.symm (numbers_of (timed_in payload stored)) (numbers_of (timed_in payload sorted)) numbers apart in
    let rise : Rises (timed_in payload sorted) = places_rise payload sorted there order still in
    (there, pairs_rise (timed_in payload sorted) rise, in_order_is (timed_in payload stored) (timed_in payload sorted) commands apart rise)

-- What the first places say once they are sorted.
pub loaded : (payload : List ℕ) (places sorted : List Place) (count : ℕ) → length places ≡ 1000 → count ≤ 1000 → AreStored payload (take count places) → IsPermutation (take count places) sorted → IsSortedBy place_before sorted
    → AreOrdered payload (take count (sorted ++ drop count places))
unfolding ats_of
loaded payload places sorted count whole few stored moved order =
    let long : length sorted ≡ count = length_permutation (take count places) sorted moved ∙ length-take-le count places (omega arith) in
    let all = sorted_places payload (take count places) sorted stored.placed stored.apart moved order in
    rw (take_at sorted (drop count places) count long)
    (record { placed = all.0; rises = all.1; commands = all.2 ∙ ap in_order (sym (ap entries_in stored.stored)) })
