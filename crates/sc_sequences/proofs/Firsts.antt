-- The command that comes first.
use Rattle.std.proofs.Common.{◌≡◌, ◌⊎◌, ℕ, zero, suc, ◌<◌, ◌≤◌, Bool, true, false, cond, List, [], ◌∷◌, length, map, set, Option, Some, None, inl, inr, refl, sym, ap, ◌∙◌, arith}
use Rattle.std.specs.Prelude.{nat_le}
use Rattle.std.proofs.lemmas.Bool.{cases_lt, cases_eq, leb-true, le-leb}
use Rattle.std.proofs.lemmas.List.{get_or_past, get_or-set_same, get_or-set_other, set_past}
use Rattle.sc_sequences.specs.Sequences.{Sequence, waiting, at_place, head_time}
use Rattle.sc_sequences.specs.Cursors.{time_in, IsSoonest}
use Rattle.sc_sequences.specs.Turns.{soonest, place_due, next_place}
use Rattle.sc_sequences.specs.Laws.{ComesFirst}
use Rattle.sc_sequences.specs.declared.cursors.Due.{Due}
use Rattle.sc_sequences.proofs.Soonest.{soonest_tells, no_soonest, soonest_is}

-- the times of the next commands, by their places
pub head_in : (all : List Sequence) (k : ℕ) → time_in (map head_time all) k ≡ head_time (at_place all k)
head_in [] k = refl
head_in (s ∷ all) zero = refl
head_in (s ∷ all) (suc k) = head_in all k

pub no_time : {X : Type 0} (o : Option ℕ) (t : ℕ) → o ≡ None → o ≡ Some t → X
no_time o t none some = absurd (none_some o t none some)
  where
    none_some : (o : Option ℕ) (t : ℕ) → o ≡ None → o ≡ Some t → ⊥
    none_some o t none some = cc

-- a place with a time is among them
pub inside : (times : List (Option ℕ)) (k t : ℕ) → time_in times k ≡ Some t → k < length times
inside times k t some = elim (cases_lt k (length times)) [
  | inl within ↦ within
  | inr past ↦ no_time (time_in times k) t (get_or_past times k None past) some
]

-- the soonest comes first
first_of : (all : List Sequence) (due : Due) → IsSoonest (map head_time all) (length (map head_time all)) due → (k t : ℕ) → head_time (at_place all k) ≡ Some t → (due.time < t) ⊎ ((due.time ≡ t) × (due.place ≤ k))
first_of all due soon k t some =
    let times = map head_time all in
    let there : time_in times k ≡ Some t = head_in all k ∙ some in
    let least = soon.least k t (inside times k t there) there in
    elim (cases_lt k due.place) [
      | inl before ↦ inl (soon.first k t before there)
      | inr behind ↦ elim (cases_lt due.time t) [
        | inl earlier ↦ inl earlier
        | inr late ↦ inr (let same : due.time ≡ t = omega arith in same, behind)
      ]
    ]

pub next_comes : (now : ℕ) (all : List Sequence) (place : ℕ) → next_place now all ≡ Some place → (time : ℕ) × ComesFirst now all place time
unfolding next_place
next_comes now all place next = by_soonest (soonest (map head_time all)) refl next
  where
    by_test : (due : Due) (b : Bool) → soonest (map head_time all) ≡ Some due → nat_le due.time now ≡ b → cond b (Some due.place) None ≡ Some place → (time : ℕ) × ComesFirst now all place time
    by_test due false soon late same = absurd cc
    by_test due true soon early same =
        let tells = soonest_tells (map head_time all) due soon in
        let is : due.place ≡ place = cc in (
          due.time,
          record {
            here = ap (λ (k : ℕ). head_time (at_place all k)) (sym is) ∙ sym (head_in all due.place) ∙ tells.here;
            due = leb-true due.time now early;
            first = λ k t some. moved due.time t due.place place k is (first_of all due tells k t some);
          },
        )
      where
        moved : (time t from to k : ℕ) → from ≡ to → (time < t) ⊎ ((time ≡ t) × (from ≤ k)) → (time < t) ⊎ ((time ≡ t) × (to ≤ k))
        moved time t from to k is (inl before) = inl before
        moved time t from to k is (inr both) = inr (both.0, let le = both.1 in omega arith)

    by_soonest : (o : Option Due) → soonest (map head_time all) ≡ o → place_due now o ≡ Some place → (time : ℕ) × ComesFirst now all place time
    by_soonest None none some = absurd cc
    by_soonest (Some due) soon some = by_test due (nat_le due.time now) soon refl some

-- and where none does, none is due
pub none_due : (now : ℕ) (all : List Sequence) → next_place now all ≡ None → (place time : ℕ) → head_time (at_place all place) ≡ Some time → now < time
unfolding next_place
none_due now all next place time some = by_soonest (soonest (map head_time all)) refl next
  where
    by_test : (due : Due) (b : Bool) → soonest (map head_time all) ≡ Some due → nat_le due.time now ≡ b → cond b (Some due.place) None ≡ None → now < time
    by_test due true soon early same = absurd cc
    by_test due false soon late same =
        let tells = soonest_tells (map head_time all) due soon in
        let there : time_in (map head_time all) place ≡ Some time = head_in all place ∙ some in
        let least = tells.least place time (inside (map head_time all) place time there) there in
        elim (cases_lt now due.time) [
          | inl later ↦ omega arith
          | inr within ↦ absurd (both (nat_le due.time now) (le-leb due.time now within) late)
        ]
      where
        both : (b : Bool) → b ≡ true → b ≡ false → ⊥
        both b holds fails = cc

    by_soonest : (o : Option Due) → soonest (map head_time all) ≡ o → place_due now o ≡ None → now < time
    by_soonest None none gone = no_time (head_time (at_place all place)) time (sym (head_in all place) ∙ no_soonest (map head_time all) none place) some
    by_soonest (Some due) soon gone = by_test due (nat_le due.time now) soon refl gone

-- one that comes first is the next
pub comes_next : (now : ℕ) (all : List Sequence) (place time : ℕ) → ComesFirst now all place time → next_place now all ≡ Some place
unfolding next_place
comes_next now all place time comes =
    let times = map head_time all in
    let there : time_in times place ≡ Some time = head_in all place ∙ comes.here in
    let due : Due = record { time = time; place = place } in
    let soon : IsSoonest times (length times) due = record {
      within = inside times place time there;
      here = there;
      least = λ k t below some. least_of time t place k (comes.first k t (sym (head_in all k) ∙ some));
      first = λ k t before some. first_before time t place k before (comes.first k t (sym (head_in all k) ∙ some));
    } in
    ap (place_due now) (sym (soonest_is times (length times) (Some due) refl soon)) ∙ ap (λ (b : Bool). cond b (Some place) None) (le-leb time now comes.due)
  where
    least_of : (time t place k : ℕ) → (time < t) ⊎ ((time ≡ t) × (place ≤ k)) → time ≤ t
    least_of time t place k (inl before) = omega arith
    least_of time t place k (inr both) = let same = both.0 in omega arith

    first_before : (time t place k : ℕ) → k < place → (time < t) ⊎ ((time ≡ t) × (place ≤ k)) → time < t
    first_before time t place k before (inl earlier) = earlier
    first_before time t place k before (inr both) = let behind = both.1 in absurd (omega arith)

-- a place after a change in one
pub changed_or_not : (all : List Sequence) (place : ℕ) (s : Sequence) (k : ℕ) → (at_place (set all place s) k ≡ at_place all k) ⊎ ((k ≡ place) × (at_place (set all place s) k ≡ s))
changed_or_not all place s k = elim (cases_eq k place) [
  | inl same ↦ elim (cases_lt place (length all)) [
    | inl within ↦ inr (same, ap (λ (j : ℕ). at_place (set all place s) j) same ∙ get_or-set_same all place s (waiting []) within)
    | inr past ↦ inl (ap (λ (l : List Sequence). at_place l k) (set_past all place s past))
  ]
  | inr other ↦ inl (get_or-set_other all place k s (waiting []) other)
]
