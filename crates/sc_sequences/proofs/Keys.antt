-- Times by their keys: the lowest is that of the soonest time.
use Rattle.std.proofs.Common.{◌≡◌, ◌⊎◌, ℕ, zero, suc, ◌+◌, ◌*◌, ◌/◌, ◌%◌, ◌<◌, ◌≤◌, min, List, length, get_or, set, replicate, Option, Some, None, IfSome, inl, inr, refl, sym, ap, subst, ◌∙◌, arith, add-one}
use Rattle.std.proofs.lemmas.Bool.{cases_lt, cases_eq, ne_eqb}
use Rattle.std.proofs.lemmas.List.{get_or-set_same, get_or-set_other, get_or_past, get_or-replicate, length-set, length-map, length-replicate, map-set, same_lists}
use Rattle.std.proofs.lemmas.List.FromFn.{length-map-range_with_len, get_or-map-range_with_len}
use Rattle.sc_sequences.specs.Cursors.{next_times, time_in, IsSoonest, SoonestOf, no_key, key_of, due_of, lowest_from, lowest_each, AreSmall}
use Rattle.sc_sequences.specs.Turns.{in_place, earliest, soonest}
use Rattle.sc_sequences.specs.declared.cursors.Cursor.{Cursor}
use Rattle.sc_sequences.specs.declared.cursors.Due.{Due}
use Rattle.sc_sequences.proofs.Soonest.{soonest_is}

-- the key of a place among these times
abbrev key_in : List (Option ℕ) → ℕ → ℕ
key_in times k = key_of k (time_in times k)

min_first : (a b : ℕ) → a ≤ b → min a b ≡ a
min_first a b below = omega arith

min_second : (a b : ℕ) → b < a → min a b ≡ b
min_second a b below = omega arith

min_le_first : (a b c : ℕ) → a ≤ c → min a b ≤ c
min_le_first a b c below = omega arith

min_le_second : (a b c : ℕ) → b ≤ c → min a b ≤ c
min_le_second a b c below = omega arith

min_both : (a b c : ℕ) → min (min a b) c ≡ min a (min b c)
min_both a b c = omega arith

same_le : (a b c : ℕ) → a ≡ b → a ≤ c → b ≤ c
same_le a b c same below = omega arith

-- no place, and one more
pub lowest_none : (times : List (Option ℕ)) (from : ℕ) → lowest_from times from 0 ≡ no_key
unfolding lowest_from
lowest_none times from = refl

pub lowest_more : (times : List (Option ℕ)) (from n : ℕ) → lowest_from times from (n + 1) ≡ min (lowest_from times from n) (key_in times (from + n))
unfolding lowest_from
lowest_more times from n = rw add-one refl

lowest_small : (times : List (Option ℕ)) (from n : ℕ) → lowest_from times from n ≤ no_key
unfolding lowest_from
lowest_small times from zero = omega arith
lowest_small times from (suc n) = min_le_first (lowest_from times from n) (key_in times (from + n)) no_key (lowest_small times from n)

-- the places of two pieces
lowest_both : (times : List (Option ℕ)) (from m n : ℕ) → lowest_from times from (m + n) ≡ min (lowest_from times from m) (lowest_from times (from + m) n)
lowest_both times from m zero =
    ap (lowest_from times from) (let none : m + 0 ≡ m = omega arith in none)
    ∙ sym (min_first (lowest_from times from m) no_key (lowest_small times from m))
    ∙ ap (min (lowest_from times from m)) (sym (lowest_none times (from + m)))
lowest_both times from m (suc n) =
    let a = lowest_from times from m in
    let b = lowest_from times (from + m) n in
    ap (lowest_from times from) (let one : m + suc n ≡ m + n + 1 = omega arith in one)
    ∙ lowest_more times from (m + n)
    ∙ ap (λ (low : ℕ). min low (key_in times (from + (m + n)))) (lowest_both times from m n)
    ∙ ap (λ (k : ℕ). min (min a b) (key_in times k)) (let same : from + (m + n) ≡ from + m + n = omega arith in same)
    ∙ min_both a b (key_in times (from + m + n))
    ∙ ap (min a) (sym (lowest_more times (from + m) n) ∙ ap (lowest_from times (from + m)) (let one : n + 1 ≡ suc n = omega arith in one))

-- it is as low as each, and that of one of them
lowest_le : (times : List (Option ℕ)) (from n k : ℕ) → from ≤ k → k < from + n → lowest_from times from n ≤ key_in times k
unfolding lowest_from
lowest_le times from zero k after before = absurd (omega arith)
lowest_le times from (suc n) k after before = elim (cases_eq (from + n) k) [
  | inl same ↦ min_le_second (lowest_from times from n) (key_in times (from + n)) (key_in times k) (same_le (key_in times k) (key_in times (from + n)) (key_in times k) (ap (key_in times) (sym same)) (omega arith))
  | inr other ↦ min_le_first (lowest_from times from n) (key_in times (from + n)) (key_in times k) (lowest_le times from n k after (omega arith))
]

record IsReached (times : List (Option ℕ)) (end low : ℕ) : Type 0 where
  place : ℕ
  before : place < end
  is : low ≡ key_in times place

reached : (times : List (Option ℕ)) (from n : ℕ) → (lowest_from times from n ≡ no_key) ⊎ IsReached times (from + n) (lowest_from times from n)
unfolding lowest_from
reached times from zero = inl refl
reached times from (suc n) =
    let low = lowest_from times from n in
    let key = key_in times (from + n) in
    elim (cases_lt key low) [
      | inl lower ↦ inr (record { place = from + n; before = omega arith; is = min_second low key lower })
      | inr behind ↦ elim (reached times from n) [
        | inl none ↦ inl (min_first low key behind ∙ none)
        | inr it ↦ inr (record { place = it.place; before = (let b = it.before in omega arith); is = min_first low key behind ∙ it.is })
      ]
    ]

-- what a key says
divided : (t p : ℕ) → p < 66 → (128 * t + p) / 128 ≡ t
divided t p below = omega arith

left_over : (t p : ℕ) → p < 66 → (128 * t + p) % 128 ≡ p
left_over t p below = omega arith

due_is : (t p : ℕ) → t < 8589934592 → p < 66 → due_of (128 * t + p) ≡ Some (in_place t p)
due_is t p small below =
    rw (ne_eqb (128 * t + p) no_key (λ same. omega arith))
    (ap (λ (time : ℕ). let due : Option Due = Some (in_place time ((128 * t + p) % 128)) in due) (divided t p below)
    ∙ ap (λ (place : ℕ). let due : Option Due = Some (in_place t place) in due) (left_over t p below))

-- the lowest key of all places is that of the soonest time
pub due_is_soonest : (times : List (Option ℕ)) → length times ≡ 66 → AreSmall times → due_of (lowest_from times 0 66) ≡ soonest times
due_is_soonest times whole small = soonest_is times 66 (due_of low) (sym whole) (by_reached (reached times 0 66))
  where
    low : ℕ
    low = lowest_from times 0 66

    below : (k : ℕ) → k < 66 → low ≤ key_in times k
    below k within = lowest_le times 0 66 k (omega arith) (omega arith)

    key_at : (k t : ℕ) → time_in times k ≡ Some t → key_in times k ≡ 128 * t + k
    key_at k t some = ap (key_of k) some

    at_most : (k t : ℕ) → k < 66 → time_in times k ≡ Some t → low ≤ 128 * t + k
    at_most k t within some = let b = below k within in let key = key_at k t some in same_right low (key_in times k) (128 * t + k) key b
      where
        same_right : (a b c : ℕ) → b ≡ c → a ≤ b → a ≤ c
        same_right a b c same far = omega arith

    none : low ≡ no_key → SoonestOf times 66 (due_of low)
    none is = subst (λ (key : ℕ). SoonestOf times 66 (due_of key)) (sym is) (λ k within. at_k k within (time_in times k) refl)
      where
        at_k : (k : ℕ) → k < 66 → (o : Option ℕ) → time_in times k ≡ o → time_in times k ≡ None
        at_k k within None is_none = is_none
        at_k k within (Some t) some = let far = at_most k t within some in let near = small k t some in absurd (over low t k is near within far)
          where
            over : (low t k : ℕ) → low ≡ no_key → t < 8589934592 → k < 66 → low ≤ 128 * t + k → ⊥
            over low t k is near within far = omega arith

    some_at : (p t : ℕ) → p < 66 → low ≡ 128 * t + p → time_in times p ≡ Some t → IsSoonest times 66 (in_place t p)
    some_at p t within is here = record {
      within = within;
      here = here;
      least = λ k u inside some. least k u inside (at_most k u inside some);
      first = λ k u before some. first k u before (at_most k u (let b : k < 66 = omega arith in b) some);
    }
      where
        least : (k u : ℕ) → k < 66 → low ≤ 128 * u + k → t ≤ u
        least k u inside far = earlier low t p u k is within inside far
          where
            earlier : (low t p u k : ℕ) → low ≡ 128 * t + p → p < 66 → k < 66 → low ≤ 128 * u + k → t ≤ u
            earlier low t p u k is within inside far = omega arith

        first : (k u : ℕ) → k < p → low ≤ 128 * u + k → t < u
        first k u before far = before_it low t p u k is within before far
          where
            before_it : (low t p u k : ℕ) → low ≡ 128 * t + p → p < 66 → k < p → low ≤ 128 * u + k → t < u
            before_it low t p u k is within before far = omega arith

    by_time : (p : ℕ) → p < 66 → low ≡ key_in times p → (o : Option ℕ) → time_in times p ≡ o → SoonestOf times 66 (due_of low)
    by_time p within is None is_none = none (is ∙ ap (key_of p) is_none)
    by_time p within is (Some t) some =
        let key : low ≡ 128 * t + p = is ∙ key_at p t some in
        subst (λ (due : Option Due). SoonestOf times 66 due) (sym (ap due_of key ∙ due_is t p (small p t some) within)) (some_at p t within key some)

    by_reached : (low ≡ no_key) ⊎ IsReached times 66 low → SoonestOf times 66 (due_of low)
    by_reached (inl is) = none is
    by_reached (inr it) = by_time it.place it.before it.is (time_in times it.place) refl

-- the lowest keys of the groups
pub each_long : (times : List (Option ℕ)) → length (lowest_each times) ≡ 11
unfolding lowest_each
each_long times = length-map-range_with_len (λ (group : ℕ). lowest_from times (6 * group) 6) 0 11

each_at : (times : List (Option ℕ)) (group d : ℕ) → group < 11 → get_or (lowest_each times) group d ≡ lowest_from times (6 * group) 6
unfolding lowest_each
each_at times group d within = get_or-map-range_with_len (λ (g : ℕ). lowest_from times (6 * g) 6) 0 11 group group d within (omega arith)

pub group_more : (times : List (Option ℕ)) (each : List ℕ) (group first d : ℕ) → group < 11 → each ≡ lowest_each times → first ≡ lowest_from times 0 (6 * group)
    → min first (get_or each group d) ≡ lowest_from times 0 (6 * (group + 1))
group_more times each group first d within are is =
    ap (λ (low : ℕ). min low (get_or each group d)) is
    ∙ ap (λ (keys : List ℕ). min (lowest_from times 0 (6 * group)) (get_or keys group d)) are
    ∙ ap (min (lowest_from times 0 (6 * group))) (each_at times group d within ∙ ap (λ (from : ℕ). lowest_from times from 6) (let same : 6 * group ≡ 0 + 6 * group = omega arith in same))
    ∙ sym (lowest_both times 0 (6 * group) 6)
    ∙ ap (lowest_from times 0) (let next : 6 * group + 6 ≡ 6 * (group + 1) = omega arith in next)

-- a change in one place changes nothing elsewhere
lowest_apart : (times : List (Option ℕ)) (place : ℕ) (t : Option ℕ) (from n : ℕ) → (place < from) ⊎ (from + n ≤ place) → lowest_from (set times place t) from n ≡ lowest_from times from n
unfolding lowest_from
lowest_apart times place t from zero apart = refl
lowest_apart times place t from (suc n) apart =
    ap (λ (low : ℕ). min low (key_in (set times place t) (from + n))) (lowest_apart times place t from n (still apart))
    ∙ ap (λ (time : Option ℕ). min (lowest_from times from n) (key_of (from + n) time)) (get_or-set_other times place (from + n) t None (other apart))
  where
    still : (place < from) ⊎ (from + suc n ≤ place) → (place < from) ⊎ (from + n ≤ place)
    still (inl before) = inl before
    still (inr behind) = inr (omega arith)

    other : (place < from) ⊎ (from + suc n ≤ place) → from + n ≡ place → ⊥
    other (inl before) same = omega arith
    other (inr behind) same = omega arith

pub each_set : (times : List (Option ℕ)) (place : ℕ) (t : Option ℕ) → place < 66 → set (lowest_each times) (place / 6) (lowest_from (set times place t) (6 * (place / 6)) 6) ≡ lowest_each (set times place t)
each_set times place t within =
    same_lists (set (lowest_each times) group new) (lowest_each changed) (length-set (lowest_each times) group new ∙ each_long times ∙ sym (each_long changed))
    (λ k d below. at_k k d (let long = length-set (lowest_each times) group new in let all = each_long times in omega arith))
  where
    changed : List (Option ℕ)
    changed = set times place t

    group : ℕ
    group = place / 6

    new : ℕ
    new = lowest_from changed (6 * group) 6

    in_group : group < 11
    in_group = omega arith

    side : (k : ℕ) → (k ≡ group → ⊥) → (place < 6 * k) ⊎ (6 * k + 6 ≤ place)
    side k other = elim (cases_lt place (6 * k)) [
      | inl before ↦ inl before
      | inr behind ↦ inr (elim (cases_lt place (6 * k + 6)) [
        | inl inside ↦ absurd (other (omega arith))
        | inr past ↦ past
      ])
    ]

    at_k : (k d : ℕ) → k < 11 → get_or (set (lowest_each times) group new) k d ≡ get_or (lowest_each changed) k d
    at_k k d below = elim (cases_eq k group) [
      | inl same ↦
          ap (λ (j : ℕ). get_or (set (lowest_each times) group new) j d) same
          ∙ get_or-set_same (lowest_each times) group new d (let all = each_long times in let g = in_group in omega arith)
          ∙ sym (each_at changed group d in_group)
          ∙ ap (λ (j : ℕ). get_or (lowest_each changed) j d) (sym same)
      | inr other ↦
          get_or-set_other (lowest_each times) group k new d other
          ∙ each_at times k d below
          ∙ sym (lowest_apart times place t (6 * k) 6 (side k other))
          ∙ sym (each_at changed k d below)
    ]

pub small_set : (times : List (Option ℕ)) (place : ℕ) (t : Option ℕ) → place < length times → IfSome t (λ (time : ℕ). time < 8589934592) → AreSmall times → AreSmall (set times place t)
small_set times place t within below small = λ k u some. elim (cases_eq k place) [
  | inl same ↦ here t u below (sym (get_or-set_same times place t None within) ∙ ap (λ (j : ℕ). time_in (set times place t) j) (sym same) ∙ some)
  | inr other ↦ small k u (sym (get_or-set_other times place k t None other) ∙ some)
]
  where
    here : (o : Option ℕ) (u : ℕ) → IfSome o (λ (time : ℕ). time < 8589934592) → o ≡ Some u → u < 8589934592
    here None u bound some = absurd cc
    here (Some v) u bound some = let same : v ≡ u = cc in let b : v < 8589934592 = bound in omega arith

-- no sequence runs
none_soonest : soonest (replicate 66 None) ≡ None
unfolding soonest earliest
none_soonest = refl

none_lowest : lowest_each (replicate 66 None) ≡ replicate 11 no_key
unfolding lowest_each lowest_from
none_lowest = refl

none_small : AreSmall (replicate 66 None)
none_small = λ k t some. absurd (no_time (time_in (replicate 66 None) k) t (at_k k) some)
  where
    no_time : (o : Option ℕ) (t : ℕ) → o ≡ None → o ≡ Some t → ⊥
    no_time o t none some = cc

    at_k : (k : ℕ) → time_in (replicate 66 None) k ≡ None
    at_k k = elim (cases_lt k 66) [
      | inl within ↦ get_or-replicate 66 k None None within
      | inr past ↦ get_or_past (replicate 66 None) k None past
    ]

pub waiting_stand : (c : Cursor) → c.next ≡ None → (length (replicate 66 c) ≡ 66) × AreSmall (next_times (replicate 66 c)) × (replicate 11 no_key ≡ lowest_each (next_times (replicate 66 c))) × (None ≡ soonest (next_times (replicate 66 c)))
waiting_stand c none =
    let times : next_times (replicate 66 c) ≡ replicate 66 None = ap (replicate 66) none in
    (length-replicate 66 c, subst AreSmall (sym times) none_small, sym (ap lowest_each times ∙ none_lowest), sym (ap soonest times ∙ none_soonest))

-- the keys behind a change of the cursor in a place
pub times_set : (all : List Cursor) (place : ℕ) (c : Cursor) → next_times (set all place c) ≡ set (next_times all) place c.next
times_set all place c = map-set (λ (k : Cursor). k.next) all place c

pub cursor_small : (all : List Cursor) (place : ℕ) (c : Cursor) → place < 66 → length all ≡ 66 → IfSome c.next (λ (time : ℕ). time < 8589934592) → AreSmall (next_times all) → AreSmall (next_times (set all place c))
cursor_small all place c within whole below small =
    subst AreSmall (sym (times_set all place c))
    (small_set (next_times all) place c.next (let long = length-map all (λ (k : Cursor). k.next) in omega arith) below small)

pub cursor_lowest : (all : List Cursor) (place : ℕ) (c : Cursor) (lowest : List ℕ) (low : ℕ) → place < 66 → lowest ≡ lowest_each (next_times all) → low ≡ lowest_from (next_times (set all place c)) (6 * (place / 6)) 6
    → set lowest (place / 6) low ≡ lowest_each (next_times (set all place c))
cursor_lowest all place c lowest low within are is =
    ap (λ (keys : List ℕ). set keys (place / 6) low) are
    ∙ ap (set (lowest_each (next_times all)) (place / 6)) (is ∙ ap (λ (times : List (Option ℕ)). lowest_from times (6 * (place / 6)) 6) (times_set all place c))
    ∙ each_set (next_times all) place c.next within
    ∙ ap lowest_each (sym (times_set all place c))
