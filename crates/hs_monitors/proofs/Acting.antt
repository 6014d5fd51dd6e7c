-- Acting, which is said of the list of changed checks, against the countdown.
use Rattle.std.proofs.Common.{◌≡◌, ◌≢◌, ℕ, zero, suc, ◌+◌, ◌-◌, ◌<◌, Bool, true, false, not, ◌&&◌, ◌||◌, cond, List, [], ◌∷◌, ◌++◌, length, drop, inl, inr, refl, sym, ap, ◌∙◌, arith, length-append, ne_eqb, append-nil, append_assoc}
use Rattle.std.specs.Prelude.{◌==◌, nat_le}
use Rattle.std.specs.List.{after_last, list_all, list_any}
use Rattle.std.proofs.lemmas.Bool.{lt-leb, le-leb, leb-true, leb-false, or_parts}
use Rattle.std.proofs.lemmas.Bool.Decides.{nat_tests}
use Rattle.std.proofs.lemmas.List.{drop_all, drop-append-le}
use Rattle.std.proofs.lemmas.List.Folds.{list_all-append}
use Rattle.histories.specs.Words.{along, last_or}
use Rattle.histories.proofs.Along.{along_more, along_none}
use Rattle.histories.proofs.Lasts.{any_push, after_last_more, last_or_more, last_cases}
use Rattle.hs_monitors.specs.Acting.{is_still, was_still, acts, acts_now, has_acted, unchanged_since, countdown_of}
use Rattle.hs_monitors.proofs.Lists.{last_ind}

-- the checks since the last changed one, at one more
pub since_none : unchanged_since [] ≡ 0
unfolding unchanged_since
since_none = refl

pub since_more : (xs : List Bool) (b : Bool) → unchanged_since (xs ++ b ∷ []) ≡ cond b 0 (unchanged_since xs + 1)
unfolding unchanged_since
since_more xs b = ap length (after_last_more (λ (x : Bool). x) xs b) ∙ by_case b
  where
    by_case : (c : Bool) → length (cond c [] (after_last (λ (x : Bool). x) xs ++ b ∷ [])) ≡ cond c 0 (length (after_last (λ (x : Bool). x) xs) + 1)
    by_case true = refl
    by_case false = length-append (after_last (λ (x : Bool). x) xs) (b ∷ [])

-- the last n are unchanged, for no check, for none of them, and for one more of both
still_zero : (xs : List Bool) → is_still 0 xs ≡ true
unfolding is_still
still_zero xs = rw (le-leb 0 (length xs) (omega arith), drop_all (length xs - 0) xs (omega arith)) refl

still_none : (n : ℕ) → is_still (suc n) [] ≡ false
unfolding is_still
still_none n = rw (lt-leb (suc n) 0 (omega arith)) refl

still_more : (n : ℕ) (xs : List Bool) (b : Bool) → is_still (suc n) (xs ++ b ∷ []) ≡ (is_still n xs && not b)
unfolding is_still
still_more n xs b =
    let long : length (xs ++ b ∷ []) ≡ length xs + 1 = length-append xs (b ∷ []) in
    ap (λ (m : ℕ). nat_le (suc n) m && list_all not (drop (m - suc n) (xs ++ b ∷ []))) long
    ∙ ap (λ (t : Bool). t && list_all not (drop (length xs + 1 - suc n) (xs ++ b ∷ []))) (same_test n (length xs))
    ∙ ap (λ (m : ℕ). nat_le n (length xs) && list_all not (drop m (xs ++ b ∷ []))) (same_place n (length xs))
    ∙ ap (λ (ys : List Bool). nat_le n (length xs) && list_all not ys) (drop-append-le (length xs - n) xs (b ∷ []) (omega arith))
    ∙ ap (λ (t : Bool). nat_le n (length xs) && t) (list_all-append not (drop (length xs - n) xs) (b ∷ []))
    ∙ regroup (nat_le n (length xs)) (list_all not (drop (length xs - n) xs)) (not b)
  where
    same_test : (k m : ℕ) → nat_le (suc k) (m + 1) ≡ nat_le k m
    same_test k m = grind (arith, nat_tests)

    same_place : (k m : ℕ) → m + 1 - suc k ≡ m - k
    same_place k m = omega arith

    regroup : (x y z : Bool) → (x && (y && (z && true))) ≡ ((x && y) && z)
    regroup true true true = refl
    regroup true true false = refl
    regroup true false z = refl
    regroup false y z = refl

and_yes : (t : Bool) → (t && true) ≡ t
and_yes true = refl
and_yes false = refl

pub and_no : (t : Bool) → (t && false) ≡ false
and_no true = refl
and_no false = refl

-- so they are as many as there are since the last changed check
pub still_is : (n : ℕ) (xs : List Bool) → is_still n xs ≡ nat_le n (unchanged_since xs)
still_is zero xs = still_zero xs ∙ sym (le-leb 0 (unchanged_since xs) (omega arith))
still_is (suc n) xs = elim (last_cases xs) [
  | inl none ↦
      ap (is_still (suc n)) none ∙ still_none n ∙ sym (ap (λ (ys : List Bool). nat_le (suc n) (unchanged_since ys)) none ∙ ap (nat_le (suc n)) since_none ∙ lt-leb (suc n) 0 (omega arith))
  | inr found ↦
      ap (is_still (suc n)) found.2 ∙ still_more n found.0 found.1 ∙ ap (λ (t : Bool). t && not found.1) (still_is n found.0)
      ∙ by_case found.1 (unchanged_since found.0) ∙ sym (ap (λ (ys : List Bool). nat_le (suc n) (unchanged_since ys)) found.2 ∙ ap (nat_le (suc n)) (since_more found.0 found.1))
]
  where
    same_test : (m : ℕ) → nat_le n m ≡ nat_le (suc n) (m + 1)
    same_test m = grind (arith, nat_tests)

    by_case : (b : Bool) (m : ℕ) → (nat_le n m && not b) ≡ nat_le (suc n) (cond b 0 (m + 1))
    by_case true m = and_no (nat_le n m) ∙ sym (lt-leb (suc n) 0 (omega arith))
    by_case false m = and_yes (nat_le n m) ∙ same_test m

-- at one more check
was_none : (n : ℕ) → was_still n [] ≡ false
unfolding was_still
was_none n = ap (list_any (λ (b : Bool). b)) (along_none (λ (earlier : List Bool) (this : Bool). is_still n (earlier ++ this ∷ [])))

was_more : (n : ℕ) (xs : List Bool) (b : Bool) → was_still n (xs ++ b ∷ []) ≡ (was_still n xs || is_still n (xs ++ b ∷ []))
unfolding was_still
was_more n xs b =
    let at = λ (earlier : List Bool) (this : Bool). is_still n (earlier ++ this ∷ []) in
    ap (list_any (λ (t : Bool). t)) (along_more at xs b) ∙ any_push (λ (t : Bool). t) (along at xs) (at xs b)

acted_none : (n : ℕ) → has_acted n [] ≡ false
unfolding has_acted
acted_none n = ap (list_any (λ (b : Bool). b)) (along_none (acts n))

pub acted_more : (n : ℕ) (xs : List Bool) (b : Bool) → has_acted n (xs ++ b ∷ []) ≡ (has_acted n xs || acts n xs b)
unfolding has_acted
acted_more n xs b = ap (list_any (λ (t : Bool). t)) (along_more (acts n) xs b) ∙ any_push (λ (t : Bool). t) (along (acts n) xs) (acts n xs b)

pub acts_at_last : (n : ℕ) (xs : List Bool) (b : Bool) → acts_now n (xs ++ b ∷ []) ≡ acts n xs b
unfolding acts_now
acts_at_last n xs b = ap (last_or false) (along_more (acts n) xs b) ∙ last_or_more false (along (acts n) xs) (acts n xs b)

acts_unless : (n : ℕ) (xs : List Bool) (b : Bool) → was_still n xs ≡ false → acts n xs b ≡ is_still n (xs ++ b ∷ [])
unfolding acts
acts_unless n xs b is = ap (λ (t : Bool). is_still n (xs ++ b ∷ []) && not t) is ∙ and_yes (is_still n (xs ++ b ∷ []))

acts_no_more : (n : ℕ) (xs : List Bool) (b : Bool) → was_still n xs ≡ true → acts n xs b ≡ false
unfolding acts
acts_no_more n xs b is = ap (λ (t : Bool). is_still n (xs ++ b ∷ []) && not t) is ∙ and_no (is_still n (xs ++ b ∷ []))

acts_first : (n : ℕ) (xs : List Bool) (b : Bool) (was : Bool) → was_still n xs ≡ was → (was || acts n xs b) ≡ (was || is_still n (xs ++ b ∷ []))
acts_first n xs b true is = refl
acts_first n xs b false is = acts_unless n xs b is

-- an entry acted exactly where at some check the last n were unchanged
acted_is : (n : ℕ) (xs : List Bool) → has_acted n xs ≡ was_still n xs
acted_is n xs = last_ind (λ (ys : List Bool). has_acted n ys ≡ was_still n ys) (acted_none n ∙ sym (was_none n)) more xs
  where
    more : (ys : List Bool) (b : Bool) → has_acted n ys ≡ was_still n ys → has_acted n (ys ++ b ∷ []) ≡ was_still n (ys ++ b ∷ [])
    more ys b same = acted_more n ys b ∙ ap (λ (t : Bool). t || acts n ys b) same ∙ acts_first n ys b (was_still n ys) refl ∙ sym (was_more n ys b)

-- until it acts fewer than n are unchanged
fewer : (n : ℕ) (xs : List Bool) → 0 < n → has_acted n xs ≡ false → unchanged_since xs < n
fewer n xs some not_yet = elim (last_cases xs) [
  | inl none ↦ let zero_since : unchanged_since xs ≡ 0 = ap unchanged_since none ∙ since_none in omega arith
  | inr found ↦
      let both = or_parts (was_still n found.0) (is_still n (found.0 ++ found.1 ∷ [])) (sym (was_more n found.0 found.1) ∙ ap (was_still n) (sym found.2) ∙ sym (acted_is n xs) ∙ not_yet) in
      let few : nat_le n (unchanged_since xs) ≡ false = sym (still_is n xs) ∙ ap (is_still n) found.2 ∙ both.1 in
      leb-false n (unchanged_since xs) few
]

-- the countdown of an entry that acted is 0, and of another it isn't
pub resting : (n : ℕ) (xs : List Bool) → 0 < n → countdown_of n xs ≡ 0 → has_acted n xs ≡ true
unfolding countdown_of
resting n xs some over = by_case (has_acted n xs) refl over
  where
    by_case : (t : Bool) → has_acted n xs ≡ t → cond t 0 (n - unchanged_since xs) ≡ 0 → t ≡ true
    by_case true is none = refl
    by_case false is none = let few = fewer n xs some is in absurd (omega (arith, few, none))

pub acted_over : (n : ℕ) (xs : List Bool) → has_acted n xs ≡ true → countdown_of n xs ≡ 0
unfolding countdown_of
acted_over n xs acted = rw acted refl

pub counting : (n : ℕ) (xs : List Bool) → 0 < countdown_of n xs → has_acted n xs ≡ false
unfolding countdown_of
counting n xs runs = by_case (has_acted n xs) runs
  where
    by_case : (t : Bool) → 0 < cond t 0 (n - unchanged_since xs) → t ≡ false
    by_case true over = absurd (omega (arith, over))
    by_case false over = refl

pub left_down : (n : ℕ) (xs : List Bool) → has_acted n xs ≡ false → countdown_of n xs ≡ n - unchanged_since xs
unfolding countdown_of
left_down n xs not_yet = rw not_yet refl

pub running : (n : ℕ) (xs : List Bool) → 0 < n → has_acted n xs ≡ false → 0 < countdown_of n xs
running n xs some not_yet = let few = fewer n xs some not_yet in let is = left_down n xs not_yet in omega (arith, few, is)

-- an entry that acted rests
pub stays_acted : (n : ℕ) (xs : List Bool) (b : Bool) → has_acted n xs ≡ true → has_acted n (xs ++ b ∷ []) ≡ true
stays_acted n xs b acted = acted_more n xs b ∙ ap (λ (t : Bool). t || acts n xs b) acted

pub rests_on : (n : ℕ) (xs : List Bool) (b : Bool) → has_acted n xs ≡ true → (countdown_of n (xs ++ b ∷ []) ≡ 0) × (acts n xs b ≡ false)
unfolding countdown_of
rests_on n xs b acted = (rw (stays_acted n xs b acted) refl, acts_no_more n xs b (sym (acted_is n xs) ∙ acted))

pub rests_later : (n : ℕ) (xs later : List Bool) → has_acted n xs ≡ true → has_acted n (xs ++ later) ≡ true
rests_later n xs [] acted = rw (append-nil xs) acted
rests_later n xs (b ∷ later) acted = ap (has_acted n) (sym (append_assoc xs (b ∷ []) later)) ∙ rests_later n (xs ++ b ∷ []) later (stays_acted n xs b acted)

-- one check of another: the countdown begins anew or goes down by one, and the entry acts where it becomes 0
value : (n u : ℕ) (t : Bool) → u < n → nat_le n (u + 1) ≡ t → cond t 0 (n - (u + 1)) ≡ n - u - 1
value n u true few is = let whole = leb-true n (u + 1) is in omega (arith, few, whole)
value n u false few is = omega arith

tested : (n u : ℕ) (t : Bool) → nat_le n (u + 1) ≡ t → t ≡ (cond t 0 (n - (u + 1)) == 0)
tested n u true is = refl
tested n u false is = let more = leb-false n (u + 1) is in let apart : n - (u + 1) ≢ 0 = omega (arith, more) in sym (ne_eqb (n - (u + 1)) 0 apart)

core : (n u : ℕ) (b : Bool) → 0 < n → u < n
    → (cond (nat_le n (cond b 0 (u + 1))) 0 (n - cond b 0 (u + 1)) ≡ cond b n (n - u - 1)) × (nat_le n (cond b 0 (u + 1)) ≡ (cond (nat_le n (cond b 0 (u + 1))) 0 (n - cond b 0 (u + 1)) == 0))
core n u true some few =
    let apart : n - 0 ≢ 0 = omega arith in
    let same : n - 0 ≡ n = omega arith in
    rw (lt-leb n 0 some) (same, sym (ne_eqb (n - 0) 0 apart))
core n u false some few = (value n u (nat_le n (u + 1)) few refl, tested n u (nat_le n (u + 1)) refl)

module _ (n : ℕ) (xs : List Bool) (b : Bool) (some : 0 < n) (not_yet : has_acted n xs ≡ false) where
  acts_here : acts n xs b ≡ nat_le n (unchanged_since (xs ++ b ∷ []))
  acts_here = acts_unless n xs b (sym (acted_is n xs) ∙ not_yet) ∙ still_is n (xs ++ b ∷ [])

  acted_here : has_acted n (xs ++ b ∷ []) ≡ nat_le n (unchanged_since (xs ++ b ∷ []))
  acted_here = acted_more n xs b ∙ ap (λ (t : Bool). t || acts n xs b) not_yet ∙ acts_here

  next_is : countdown_of n (xs ++ b ∷ []) ≡ cond (nat_le n (cond b 0 (unchanged_since xs + 1))) 0 (n - cond b 0 (unchanged_since xs + 1))
  unfolding countdown_of
  next_is =
      ap (λ (t : Bool). cond t 0 (n - unchanged_since (xs ++ b ∷ []))) acted_here
      ∙ ap (λ (u : ℕ). cond (nat_le n u) 0 (n - u)) (since_more xs b)

  pub countdown_steps : countdown_of n (xs ++ b ∷ []) ≡ cond b n (countdown_of n xs - 1)
  countdown_steps = next_is ∙ (core n (unchanged_since xs) b some (fewer n xs some not_yet)).0 ∙ sym (ap (λ (m : ℕ). cond b n (m - 1)) (left_down n xs not_yet))

  pub acts_at_end : acts n xs b ≡ (countdown_of n (xs ++ b ∷ []) == 0)
  acts_at_end =
      acts_here ∙ ap (nat_le n) (since_more xs b) ∙ (core n (unchanged_since xs) b some (fewer n xs some not_yet)).1
      ∙ sym (ap (λ (m : ℕ). m == 0) next_is)

-- before the first check
pub countdown_none : (n : ℕ) → n ≡ countdown_of n []
unfolding countdown_of
countdown_none n = let same : n ≡ n - 0 = omega arith in rw (acted_none n, since_none) same
