-- Firings by the end of the list of evaluations.
use Rattle.std.proofs.Common.{◌≡◌, ℕ, zero, suc, ◌+◌, ◌-◌, ◌≤◌, Bool, true, false, ◌&&◌, List, [], ◌∷◌, ◌++◌, length, take, drop, replicate, Option, Some, None, option_to_list, refl, sym, ap, ◌∙◌, arith, length-append}
use Rattle.std.specs.Prelude.{nat_le}
use Rattle.std.specs.List.{list_all}
use Rattle.std.proofs.Math.Seq.{drop-append_seam}
use Rattle.std.proofs.lemmas.Bool.{le-leb, leb-true}
use Rattle.std.proofs.lemmas.List.{take-append-drop, length-drop, length-replicate}
use Rattle.lc_watch.specs.Actionpoints.{act_at}
use Rattle.lc_watch.specs.Failing.{are_failing, due_by}
use Rattle.lc_watch.specs.Histories.{Input, Setup, ordered_at, evaluation_at, evaluations_of}
use Rattle.lc_watch.specs.Firing.{is_active, fires}
use Rattle.lc_watch.proofs.Both.{and_no, both_true}
use Rattle.lc_watch.proofs.Following.{evaluations_more}

-- a list of which all fail
all_fail : (n : ℕ) → list_all (λ (fails : Bool). fails) (replicate n true) ≡ true
all_fail zero = refl
all_fail (suc n) = all_fail n

only_fails : (xs : List Bool) → list_all (λ fails. fails) xs ≡ true → xs ≡ replicate (length xs) true
only_fails [] all = refl
only_fails (b ∷ xs) all =
    let both = both_true b (list_all (λ (fails : Bool). fails) xs) all in
    ap (λ (c : Bool). c ∷ xs) both.0 ∙ ap (λ (ys : List Bool). true ∷ ys) (only_fails xs both.1)

-- the last n fail where the list ends with n that do, and nowhere else
pub row_fails : (earlier : List Bool) (n : ℕ) → are_failing n (earlier ++ replicate n true) ≡ true
unfolding are_failing
row_fails earlier n =
    let row : List Bool = replicate n true in
    let long : length (earlier ++ row) ≡ length earlier + n = length-append earlier row ∙ ap (λ (m : ℕ). length earlier + m) (length-replicate n true) in
    ap (λ (m : ℕ). nat_le n m && list_all (λ fails. fails) (drop (m - n) (earlier ++ row))) long
    ∙ ap (λ (t : Bool). t && list_all (λ fails. fails) (drop (length earlier + n - n) (earlier ++ row))) (le-leb n (length earlier + n) (omega arith))
    ∙ ap (λ (m : ℕ). list_all (λ fails. fails) (drop m (earlier ++ row))) (let same : length earlier + n - n ≡ length earlier = omega arith in same)
    ∙ ap (list_all (λ fails. fails)) (drop-append_seam earlier row)
    ∙ all_fail n

pub ends_with_row : (n : ℕ) (evaluations : List Bool) → are_failing n evaluations ≡ true → (earlier : List Bool) × (evaluations ≡ earlier ++ replicate n true)
unfolding are_failing
ends_with_row n evaluations failing =
    let from = length evaluations - n in
    let both = both_true (nat_le n (length evaluations)) (list_all (λ (fails : Bool). fails) (drop from evaluations)) failing in
    let within : n ≤ length evaluations = leb-true n (length evaluations) both.0 in
    let long = length-drop from evaluations in
    let size : length (drop from evaluations) ≡ n = omega (arith, long, within) in (
      take from evaluations,
      sym (take-append-drop from evaluations) ∙ ap (λ (row : List Bool). take from evaluations ++ row) (only_fails (drop from evaluations) both.1 ∙ ap (λ (m : ℕ). replicate m true) size),
    )

module _ (setup : Setup) (history : List Input) (input : Input) (place : ℕ) where
  -- without an evaluation
  pub fires_without : evaluation_at setup place (history ++ input ∷ []) ≡ None → fires setup history input place ≡ false
  fires_without none =
      let active = is_active setup history (ordered_at setup input) place in
      ap (λ (evaluation : Option Bool). active && due_by (act_at setup.actions place).failures (evaluations_of setup place history) evaluation) none ∙ and_no active

  -- at one
  pub fires_at : (fails : Bool) → evaluation_at setup place (history ++ input ∷ []) ≡ Some fails
      → fires setup history input place ≡ (is_active setup history (ordered_at setup input) place && are_failing (act_at setup.actions place).failures (evaluations_of setup place (history ++ input ∷ [])))
  fires_at fails some =
      let active = is_active setup history (ordered_at setup input) place in
      let n = (act_at setup.actions place).failures in
      let earlier = evaluations_of setup place history in
      ap (λ (evaluation : Option Bool). active && due_by n earlier evaluation) some
      ∙ ap (λ (evaluations : List Bool). active && are_failing n evaluations)
      (sym (evaluations_more setup place history input ∙ ap (λ (evaluation : Option Bool). earlier ++ option_to_list evaluation) some))
