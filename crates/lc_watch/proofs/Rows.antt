-- Failures in a row, which are said of the list of evaluations, against the count of them.
use Rattle.std.proofs.Common.{◌≡◌, ℕ, zero, suc, ◌+◌, ◌-◌, ◌<◌, ◌≤◌, min, Bool, true, false, not, ◌&&◌, cond, List, [], ◌∷◌, ◌++◌, length, drop, inl, inr, refl, sym, ap, ◌∙◌, arith, length-append, append-nil}
use Rattle.std.specs.Prelude.{nat_le, Some, None}
use Rattle.std.specs.List.{after_last, list_all}
use Rattle.std.proofs.lemmas.Bool.{lt-leb, le-leb}
use Rattle.std.proofs.lemmas.Bool.Decides.{nat_tests}
use Rattle.std.proofs.lemmas.List.{drop_all, drop-append-le}
use Rattle.std.proofs.lemmas.List.Folds.{list_all-append}
use Rattle.histories.specs.Words.{last_or}
use Rattle.histories.proofs.Lasts.{after_last_more, last_or_more, last_cases}
use Rattle.lc_watch.specs.Failing.{are_failing, due_by, fires_by, by_firing, failing_since, failing_of, PointStands}
use Rattle.lc_watch.specs.declared.points.Point.{Point}
use Rattle.lc_watch.proofs.Both.{and_yes, and_no}

-- the failures since the last evaluation that didn't fail, at one more
since_none : failing_since [] ≡ 0
unfolding failing_since
since_none = refl

since_more : (xs : List Bool) (b : Bool) → failing_since (xs ++ b ∷ []) ≡ cond b (failing_since xs + 1) 0
unfolding failing_since
since_more xs b = ap length (after_last_more not xs b) ∙ by_case b
  where
    by_case : (c : Bool) → length (cond (not c) [] (after_last not xs ++ c ∷ [])) ≡ cond c (length (after_last not xs) + 1) 0
    by_case true = length-append (after_last not xs) (true ∷ [])
    by_case false = refl

-- the last n fail, for n of 0, for no evaluation, and for one more of both
zero_fail : (xs : List Bool) → are_failing 0 xs ≡ true
unfolding are_failing
zero_fail xs = rw (le-leb 0 (length xs) (omega arith), drop_all (length xs - 0) xs (omega arith)) refl

none_fail : (n : ℕ) → are_failing (suc n) [] ≡ false
unfolding are_failing
none_fail n = rw (lt-leb (suc n) 0 (omega arith)) refl

more_fail : (n : ℕ) (xs : List Bool) (b : Bool) → are_failing (suc n) (xs ++ b ∷ []) ≡ (are_failing n xs && b)
unfolding are_failing
more_fail n xs b =
    let all : Bool → Bool = λ fails. fails in
    let long : length (xs ++ b ∷ []) ≡ length xs + 1 = length-append xs (b ∷ []) in
    ap (λ (m : ℕ). nat_le (suc n) m && list_all (λ fails. fails) (drop (m - suc n) (xs ++ b ∷ []))) long
    ∙ ap (λ (t : Bool). t && list_all (λ fails. fails) (drop (length xs + 1 - suc n) (xs ++ b ∷ []))) (same_test n (length xs))
    ∙ ap (λ (m : ℕ). nat_le n (length xs) && list_all (λ fails. fails) (drop m (xs ++ b ∷ []))) (same_place n (length xs))
    ∙ ap (λ (ys : List Bool). nat_le n (length xs) && list_all (λ fails. fails) ys) (drop-append-le (length xs - n) xs (b ∷ []) (omega arith))
    ∙ ap (λ (t : Bool). nat_le n (length xs) && t) (list_all-append (λ fails. fails) (drop (length xs - n) xs) (b ∷ []))
    ∙ regroup (nat_le n (length xs)) (list_all (λ fails. fails) (drop (length xs - n) xs)) b
  where
    same_test : (k m : ℕ) → nat_le (suc k) (m + 1) ≡ nat_le k m
    same_test k m = grind (arith, nat_tests)

    same_place : (k m : ℕ) → m + 1 - suc k ≡ m - k
    same_place k m = omega arith

    regroup : (x y z : Bool) → (x && (y && (z && true))) ≡ ((x && y) && z)
    regroup true true true = refl
    regroup true true false = refl
    regroup true false z = refl
    regroup false y z = refl

-- so they are as many as there are in a row
failing_is : (n : ℕ) (xs : List Bool) → are_failing n xs ≡ nat_le n (failing_since xs)
failing_is zero xs = zero_fail xs ∙ sym (le-leb 0 (failing_since xs) (omega arith))
failing_is (suc n) xs = elim (last_cases xs) [
  | inl none ↦
      ap (are_failing (suc n)) none ∙ none_fail n ∙ sym (ap (λ (ys : List Bool). nat_le (suc n) (failing_since ys)) none ∙ ap (nat_le (suc n)) since_none ∙ lt-leb (suc n) 0 (omega arith))
  | inr found ↦
      ap (are_failing (suc n)) found.2 ∙ more_fail n found.0 found.1 ∙ ap (λ (t : Bool). t && found.1) (failing_is n found.0)
      ∙ by_case found.1 (failing_since found.0) ∙ sym (ap (λ (ys : List Bool). nat_le (suc n) (failing_since ys)) found.2 ∙ ap (nat_le (suc n)) (since_more found.0 found.1))
]
  where
    same_test : (m : ℕ) → nat_le n m ≡ nat_le (suc n) (m + 1)
    same_test m = grind (arith, nat_tests)

    by_case : (b : Bool) (m : ℕ) → (nat_le n m && b) ≡ nat_le (suc n) (cond b (m + 1) 0)
    by_case true m = and_yes (nat_le n m) ∙ same_test m
    by_case false m = and_no (nat_le n m) ∙ sym (lt-leb (suc n) 0 (omega arith))

-- before the first evaluation
pub point_begun : (start : Bool) (n : ℕ) (p : Point) → p.active ≡ start → p.failing ≡ 0 → PointStands start n [] [] p
unfolding last_or
point_begun start n p active failing = record {
  active = active;
  failing = failing ∙ sym (ap (min n) since_none ∙ (let least : min n 0 ≡ 0 = omega arith in least));
}

module _ (start : Bool) (n : ℕ) (xs settings : List Bool) (p : Point) (stood : PointStands start n xs settings p) where
  -- set by a command
  pub point_set : (on : Bool) → PointStands start n xs (settings ++ on ∷ []) (record { active = on; failing = p.failing })
  point_set on = record { active = sym (last_or_more start settings on); failing = stood.failing }

  -- what sets it once it was evaluated
  active_then : (d : Bool) → last_or start (settings ++ by_firing (last_or start settings && d)) ≡ (last_or start settings && not d)
  active_then d = by_case (last_or start settings) refl d
    where
      unset : last_or start (settings ++ []) ≡ last_or start settings
      unset = ap (last_or start) (append-nil settings)

      by_case : (a : Bool) → last_or start settings ≡ a → (e : Bool) → last_or start (settings ++ by_firing (a && e)) ≡ (a && not e)
      by_case true is true = last_or_more start settings false
      by_case true is false = unset ∙ is
      by_case false is true = unset ∙ is
      by_case false is false = unset ∙ is

  -- one that isn't evaluated
  pub unseen_stands : PointStands start n (xs ++ []) (settings ++ by_firing (fires_by start n xs settings None)) p
  unseen_stands = record {
    active = stood.active ∙ sym (active_then false ∙ and_yes (last_or start settings));
    failing = stood.failing ∙ ap (failing_of n) (sym (append-nil xs));
  }

  pub unseen_fires : false ≡ fires_by start n xs settings None
  unseen_fires = sym (and_no (last_or start settings))

  -- an evaluation that doesn't fail
  module _ (some : 0 < n) where
    passes_due : due_by n xs (Some false) ≡ false
    passes_due = failing_is n (xs ++ false ∷ []) ∙ ap (nat_le n) (since_more xs false) ∙ lt-leb n 0 some

    pub passes_fires : false ≡ fires_by start n xs settings (Some false)
    passes_fires = sym (ap (λ (d : Bool). last_or start settings && d) passes_due ∙ and_no (last_or start settings))

    pub passes_stands : PointStands start n (xs ++ false ∷ []) (settings ++ by_firing (fires_by start n xs settings (Some false))) (record { active = p.active; failing = 0 })
    passes_stands = record {
      active = stood.active ∙ sym (ap (λ (d : Bool). last_or start (settings ++ by_firing (last_or start settings && d))) passes_due ∙ active_then false ∙ and_yes (last_or start settings));
      failing = sym (ap (min n) (since_more xs false) ∙ (let least : min n 0 ≡ 0 = omega arith in least));
    }

  -- one that fails, and of which fewer than n are in a row
  fails_due : due_by n xs (Some true) ≡ nat_le n (failing_since xs + 1)
  fails_due = failing_is n (xs ++ true ∷ []) ∙ ap (nat_le n) (since_more xs true)

  fails_row : failing_of n (xs ++ true ∷ []) ≡ min n (failing_since xs + 1)
  fails_row = ap (min n) (since_more xs true)

  module _ (fewer : p.failing < n - 1) where
    few_due : due_by n xs (Some true) ≡ false
    few_due = let is = stood.failing in fails_due ∙ lt-leb n (failing_since xs + 1) (omega (arith, is, fewer))

    pub few_fires : false ≡ fires_by start n xs settings (Some true)
    few_fires = sym (ap (λ (d : Bool). last_or start settings && d) few_due ∙ and_no (last_or start settings))

    pub few_stands : PointStands start n (xs ++ true ∷ []) (settings ++ by_firing (fires_by start n xs settings (Some true))) (record { active = p.active; failing = p.failing + 1 })
    few_stands = record {
      active = stood.active ∙ sym (ap (λ (d : Bool). last_or start (settings ++ by_firing (last_or start settings && d))) few_due ∙ active_then false ∙ and_yes (last_or start settings));
      failing = let is = stood.failing in let row = fails_row in omega (arith, is, fewer, row);
    }

  -- the last of n in a row
  module _ (whole : n - 1 ≤ p.failing) (some : 0 < n) where
    all_due : due_by n xs (Some true) ≡ true
    all_due = let is = stood.failing in fails_due ∙ le-leb n (failing_since xs + 1) (omega (arith, is, whole, some))

    pub all_fires : p.active ≡ fires_by start n xs settings (Some true)
    all_fires = stood.active ∙ sym (ap (λ (d : Bool). last_or start settings && d) all_due ∙ and_yes (last_or start settings))

    pub all_stands : PointStands start n (xs ++ true ∷ []) (settings ++ by_firing (fires_by start n xs settings (Some true))) (record { active = false; failing = n })
    all_stands = record {
      active = sym (ap (λ (d : Bool). last_or start (settings ++ by_firing (last_or start settings && d))) all_due ∙ active_then true ∙ and_no (last_or start settings));
      failing = let is = stood.failing in let row = fails_row in omega (arith, is, whole, some, row);
    }
