-- Jobs that were done by the caller, and those that were chosen for workers.
use Rattle.std.proofs.Common.{◌≡◌, ℕ, ◌+◌, ◌<◌, ◌≤◌, ◌≢◌, ◌⊎◌, ⊎_elim, List, [], ◌∷◌, ◌++◌, get_or, sym, ◌∙◌, subst, arith, eq-zero-or-pos}
use Rattle.std.proofs.lemmas.Bool.{cases_lt}
use Rattle.std.proofs.lemmas.List.Elements.{All-push}
use Rattle.crew_board.specs.Claim.{times}
use Rattle.crew_board.specs.Work.{IsRight, AreDone, AreDraws, StayBut}
use Rattle.crew_board.proofs.Times.{found, one_if_same, times_push, rises_push, rises_none}

module _ {T S : Type 0} (leaves : T → S → Type 0) (tasks : List T) where
  -- a result that stays is right as before
  pub right_still : (before now : List S) (job : ℕ) → ((s : S) → get_or now job s ≡ get_or before job s) → IsRight leaves tasks before job → IsRight leaves tasks now job
  right_still before now job same right t s is_task found = right t s is_task (sym (same s) ∙ found)

  -- each job that isn't among the chosen ones is right, so far
  pub record Settled (count : ℕ) (chosen : List ℕ) (results : List S) : Type 0 where
    pub draws : AreDraws count chosen
    pub right : (job : ℕ) → job < count → times job chosen ≡ 0 → IsRight leaves tasks results job

  pub settled_none : (chosen : List ℕ) (results : List S) → chosen ≡ [] → Settled 0 chosen results
  settled_none chosen results none =
      subst (λ (l : List ℕ). Settled 0 l results) (sym none)
      (record { draws = (rises_none, λ k d h. absurd (omega arith)); right = λ job h none_times. absurd (omega arith) })

  -- one job more
  pub settled_more : (count : ℕ) (before after : List ℕ) (old new : List S) → Settled count before old
      → ((k : ℕ) (s : S) → k ≢ count → get_or new k s ≡ get_or old k s)
      → (after ≡ before ++ count ∷ []) ⊎ ((after ≡ before) × IsRight leaves tasks new count) → Settled (count + 1) after new
  settled_more count before after old new settled others one =
      let earlier = λ (job : ℕ) (h : job < count) (none : times job before ≡ 0). right_still old new job (λ s. others job s (λ (e : job ≡ count). omega arith)) (settled.right job h none) in
      ⊎_elim
      (λ (is : after ≡ before ++ count ∷ []).
      subst (λ (l : List ℕ). Settled (count + 1) l new) (sym is)
      (record {
        draws = (
          rises_push before count settled.draws.0 (λ k d h. settled.draws.1 k d h),
          All-push (λ job. job < count + 1) before count (λ k d h. (let below = settled.draws.1 k d h in omega arith)) (omega arith),
        );
        right = λ job h none.
            (let push = times_push job count before in
            ⊎_elim
            (λ (less : job < count). earlier job less (omega arith))
            (λ (last : count ≤ job). let same = one_if_same count job (omega arith) in absurd (omega arith))
            (cases_lt job count));
      }))
      (λ (is : (after ≡ before) × IsRight leaves tasks new count).
      subst (λ (l : List ℕ). Settled (count + 1) l new) (sym is.0)
      (record {
        draws = (settled.draws.0, λ k d h. (let below = settled.draws.1 k d h in omega arith));
        right = λ job h none.
            ⊎_elim
            (λ (less : job < count). earlier job less none)
            (λ (last : count ≤ job). let same : count ≡ job = omega arith in subst (λ (n : ℕ). IsRight leaves tasks new n) same is.1)
            (cases_lt job count);
      }))
      one

  -- all jobs are right once the chosen ones were done
  pub all_right : (jobs : ℕ) (chosen : List ℕ) (old new : List S) → ((job : ℕ) → job < jobs → times job chosen ≡ 0 → IsRight leaves tasks old job) → AreDone leaves tasks new chosen → StayBut chosen old new
      → (job : ℕ) → job < jobs → IsRight leaves tasks new job
  all_right jobs chosen old new settled done stay job h =
      ⊎_elim
      (λ (none : times job chosen ≡ 0). right_still old new job (λ s. stay job s none) (settled job h none))
      (λ (some_times : 0 < times job chosen).
      let at = found job chosen some_times in
      subst (λ (n : ℕ). IsRight leaves tasks new n) at.2 (done at.0 at.1))
      (eq-zero-or-pos (times job chosen))
