-- The soonest of some times: the earliest one in the first place that has it.
use Rattle.std.proofs.Common.{◌≡◌, ◌⊎◌, ℕ, zero, suc, ◌<◌, ◌≤◌, min, Bool, true, false, cond, List, [], ◌∷◌, length, Option, Some, None, inl, inr, refl, sym, ap, subst, ◌∙◌, arith, ltb}
use Rattle.std.specs.Prelude.{position, option_map}
use Rattle.std.specs.List.{position_or_len}
use Rattle.std.proofs.lemmas.Bool.{cases_lt, cases_order, eqb-true, eqb-false, eq-eqb, lt-ltb}
use Rattle.std.proofs.lemmas.List.Quantifiers.{position-Some}
use Rattle.std.proofs.lemmas.List.Sums.{fails_before_first}
use Rattle.sc_sequences.specs.Cursors.{time_in, IsSoonest, SoonestOf}
use Rattle.sc_sequences.specs.Turns.{earlier, earliest, is_at, in_place, first_with, soonest}
use Rattle.sc_sequences.specs.declared.cursors.Due.{Due}

-- a time that some place has and no place has an earlier one
record IsEarliest (times : List (Option ℕ)) (e : ℕ) : Type 0 where
  at : ℕ
  within : at < length times
  there : time_in times at ≡ Some e
  least : (k t : ℕ) → time_in times k ≡ Some t → e ≤ t

not_none : (t : ℕ) (u : Option ℕ) → earlier (Some t) u ≡ None → ⊥
not_none t None none = cc
not_none t (Some u) none = cc

earliest_none : (times : List (Option ℕ)) → earliest times ≡ None → (k : ℕ) → time_in times k ≡ None
unfolding earliest
earliest_none [] none k = refl
earliest_none (None ∷ times) none zero = refl
earliest_none (None ∷ times) none (suc k) = earliest_none times none k
earliest_none (Some t ∷ times) none k = absurd (not_none t (earliest times) none)

-- one time more before the others
least_more : (o : Option ℕ) (times : List (Option ℕ)) (e : ℕ) → ((t : ℕ) → o ≡ Some t → e ≤ t) → ((k t : ℕ) → time_in times k ≡ Some t → e ≤ t) → (k t : ℕ) → time_in (o ∷ times) k ≡ Some t → e ≤ t
least_more o times e here rest zero t is = here t is
least_more o times e here rest (suc k) t is = rest k t is

same_some : (t u : ℕ) → ◌≡◌ {A = Option ℕ} (Some t) (Some u) → t ≡ u
same_some t u same = cc

is_earliest : (times : List (Option ℕ)) (e : ℕ) → earliest times ≡ Some e → IsEarliest times e
unfolding earliest
is_earliest [] e is = absurd cc
is_earliest (None ∷ times) e is =
    let rest = is_earliest times e is in
    record { at = suc rest.at; within = (let w = rest.within in omega arith); there = rest.there; least = least_more None times e (λ t some. absurd cc) rest.least }
is_earliest (Some t ∷ times) e is = by_rest (earliest times) refl is (is_earliest times)
  where
    by_rest : (u : Option ℕ) → earliest times ≡ u → earlier (Some t) u ≡ Some e → ((f : ℕ) → earliest times ≡ Some f → IsEarliest times f) → IsEarliest (Some t ∷ times) e
    by_rest None none here rest =
        let same : t ≡ e = same_some t e here in
        record {
          at = 0;
          within = omega arith;
          there = ap (λ (n : ℕ). Some n) same;
          least = least_more (Some t) times e (λ v some. let eq = same_some t v some in omega arith) (λ k v some. absurd (no_time (time_in times k) v (earliest_none times none k) some));
        }
      where
        no_time : (o : Option ℕ) (v : ℕ) → o ≡ None → o ≡ Some v → ⊥
        no_time o v gone there = cc
    by_rest (Some u) some here rest =
        let same : min t u ≡ e = same_some (min t u) e here in
        let later = rest u some in
        elim (cases_lt u t) [
          | inl before ↦
              let is_u : u ≡ e = omega arith in
              record {
                at = suc later.at;
                within = (let w = later.within in omega arith);
                there = later.there ∙ ap (λ (n : ℕ). Some n) is_u;
                least = least_more (Some t) times e (λ v this. let eq = same_some t v this in omega arith) (λ k v this. let far = later.least k v this in omega arith);
              }
          | inr behind ↦
              let is_t : t ≡ e = omega arith in
              record {
                at = 0;
                within = omega arith;
                there = ap (λ (n : ℕ). Some n) is_t;
                least = least_more (Some t) times e (λ v this. let eq = same_some t v this in omega arith) (λ k v this. let far = later.least k v this in omega arith);
              }
        ]

-- a place has a time
at_is : (e : ℕ) (o : Option ℕ) → is_at e o ≡ true → o ≡ Some e
at_is e None at = absurd cc
at_is e (Some t) at = ap (λ (n : ℕ). Some n) (eqb-true t e at)

at_not : (e t : ℕ) (o : Option ℕ) → o ≡ Some t → is_at e o ≡ false → t ≡ e → ⊥
at_not e t None some not_at same = absurd cc
at_not e t (Some u) some not_at same = let eq : u ≡ t = same_some u t some in eqb-false u e not_at (eq ∙ same)

at_here : (e : ℕ) (o : Option ℕ) → o ≡ Some e → is_at e o ≡ true
at_here e None some = absurd cc
at_here e (Some t) some = eq-eqb t e (same_some t e some)

-- what the soonest is
pub soonest_tells : (times : List (Option ℕ)) (due : Due) → soonest times ≡ Some due → IsSoonest times (length times) due
unfolding soonest
soonest_tells times due is = by_time (earliest times) refl is
  where
    at_first : (e p : ℕ) → IsEarliest times e → position (is_at e) times ≡ Some p → IsSoonest times (length times) (in_place e p)
    at_first e p least found =
        let first = position-Some (is_at e) times p None found in
        record {
          within = first.0;
          here = at_is e (time_in times p) first.1;
          least = λ k t inside some. least.least k t some;
          first = λ k t before some. let far = least.least k t some in let other = at_not e t (time_in times k) some (first.2 k before) in lt_from e t far (λ same. other (sym same));
        }
      where
        lt_from : (e t : ℕ) → e ≤ t → (e ≡ t → ⊥) → e < t
        lt_from e t far apart = omega arith

    by_place : (e : ℕ) (found : Option ℕ) → IsEarliest times e → position (is_at e) times ≡ found → option_map (in_place e) found ≡ Some due → IsSoonest times (length times) due
    by_place e None least none some = absurd cc
    by_place e (Some p) least found some =
        let same : in_place e p ≡ due = cc in
        subst (λ (d : Due). IsSoonest times (length times) d) same (at_first e p least found)

    by_time : (o : Option ℕ) → earliest times ≡ o → first_with times o ≡ Some due → IsSoonest times (length times) due
    by_time None none some = absurd cc
    by_time (Some e) there some = by_place e (position (is_at e) times) (is_earliest times e there) refl some

pub no_soonest : (times : List (Option ℕ)) → soonest times ≡ None → (k : ℕ) → time_in times k ≡ None
unfolding soonest
no_soonest times is k = by_time (earliest times) refl is
  where
    some_place : (e n m : ℕ) (found : Option ℕ) → n < m → found ≡ cond (ltb n m) (Some n) None → option_map (in_place e) found ≡ None → ⊥
    some_place e n m None below there none = let t = lt-ltb n m below in let eq : ◌≡◌ {A = Option ℕ} None (cond (ltb n m) (Some n) None) = there in let back = rw t at eq in absurd cc
    some_place e n m (Some p) below there none = cc

    by_time : (o : Option ℕ) → earliest times ≡ o → first_with times o ≡ None → time_in times k ≡ None
    by_time None none first = earliest_none times none k
    by_time (Some e) there first =
        let least = is_earliest times e there in
        elim (cases_lt (position_or_len (is_at e) times) (length times)) [
          | inl found ↦ absurd (some_place e (position_or_len (is_at e) times) (length times) (position (is_at e) times) found refl first)
          | inr missed ↦ let w = least.within in let before : least.at < position_or_len (is_at e) times = omega arith in absurd (both (is_at e (time_in times least.at)) (at_here e (time_in times least.at) least.there) (fails_before_first (is_at e) times least.at None before))
        ]
      where
        both : (b : Bool) → b ≡ true → b ≡ false → ⊥
        both b holds fails = cc

-- there is one soonest
same_due : (a b : Due) → a.time ≡ b.time → a.place ≡ b.place → a ≡ b
same_due a b times places = ap (λ (t : ℕ). in_place t a.place) times ∙ ap (λ (p : ℕ). in_place b.time p) places

one_soonest : (times : List (Option ℕ)) (n : ℕ) (a b : Due) → IsSoonest times n a → IsSoonest times n b → a ≡ b
one_soonest times n a b first second =
    let one : a.time ≤ b.time = first.least b.place b.time second.within second.here in
    let other : b.time ≤ a.time = second.least a.place a.time first.within first.here in
    let times_same : a.time ≡ b.time = omega arith in
    same_due a b times_same (by_order (cases_order a.place b.place))
  where
    by_order : (a.place ≡ b.place) ⊎ ((a.place < b.place) ⊎ (b.place < a.place)) → a.place ≡ b.place
    by_order (inl same) = same
    by_order (inr (inl before)) = let far = second.first a.place a.time before first.here in let near : b.time ≤ a.time = second.least a.place a.time first.within first.here in let back : a.time ≤ b.time = first.least b.place b.time second.within second.here in absurd (omega arith)
    by_order (inr (inr before)) = let far = first.first b.place b.time before second.here in let near : b.time ≤ a.time = second.least a.place a.time first.within first.here in let back : a.time ≤ b.time = first.least b.place b.time second.within second.here in absurd (omega arith)

pub soonest_is : (times : List (Option ℕ)) (n : ℕ) (best : Option Due) → n ≡ length times → SoonestOf times n best → best ≡ soonest times
soonest_is times n best whole found = by_both best (soonest times) refl (subst (λ (m : ℕ). SoonestOf times m best) whole found)
  where
    no_time : (o : Option ℕ) (t : ℕ) → o ≡ None → o ≡ Some t → ⊥
    no_time o t none some = cc

    by_both : (a b : Option Due) → soonest times ≡ b → SoonestOf times (length times) a → a ≡ soonest times
    by_both None None is stood = sym is
    by_both None (Some d) is stood = let tells = soonest_tells times d is in absurd (no_time (time_in times d.place) d.time (stood d.place tells.within) tells.here)
    by_both (Some c) None is stood = absurd (no_time (time_in times c.place) c.time (no_soonest times is c.place) stood.here)
    by_both (Some c) (Some d) is stood = ap (λ (e : Due). Some e) (one_soonest times (length times) c d stood (soonest_tells times d is)) ∙ sym is
