-- Scratches that a job was performed on, and scratches put in each other's place.
use Rattle.std.proofs.Common.{◌≡◌, ℕ, ◌+◌, ◌<◌, ◌≤◌, ◌≢◌, ⊎_elim, List, [], ◌∷◌, ◌++◌, length, get_or, set, sym, ◌∙◌, subst, arith, All}
use Rattle.std.proofs.lemmas.Bool.{cases_eq, cases_lt}
use Rattle.std.proofs.lemmas.List.{get_or-set_same, get_or-set_other, get_or_append_left, get_or_push, length_push}
use Rattle.crew_board.specs.Claim.{IsStrictlyIncreasing}
use Rattle.crew_board.specs.Work.{IsRight, AreDone, StayRight}

module _ {T S : Type 0} (leaves : T → S → Type 0) (tasks : List T) where
  -- another scratch changes nothing
  pub right_other : (scratches : List S) (job at : ℕ) (s : S) → job ≢ at → IsRight leaves tasks scratches job → IsRight leaves tasks (set scratches at s) job
  right_other scratches job at s differ right t found is_task is_found = right t found is_task (sym (get_or-set_other scratches at job s found differ) ∙ is_found)

  -- the scratch that the task left
  pub right_set : (scratches : List S) (at : ℕ) (s : S) → at < length scratches → ((t : T) → get_or tasks at t ≡ t → leaves t s) → IsRight leaves tasks (set scratches at s) at
  right_set scratches at s inside left t found is_task is_found =
      subst (leaves t) (sym (get_or-set_same scratches at s found inside) ∙ is_found) (left t is_task)

  -- one job more
  pub done_more : (scratches : List S) (drawn : List ℕ) (job : ℕ) (s : S) → job < length scratches → All (λ k. k < job) drawn → ((t : T) → get_or tasks job t ≡ t → leaves t s)
      → AreDone leaves tasks scratches drawn → AreDone leaves tasks (set scratches job s) (drawn ++ job ∷ [])
  done_more scratches drawn job s inside below left done k h =
      let longer = length_push drawn job in
      ⊎_elim
      (λ (earlier : k < length drawn).
      subst (λ (n : ℕ). IsRight leaves tasks (set scratches job s) n) (sym (get_or_append_left drawn (job ∷ []) 0 k earlier))
      (right_other scratches (get_or drawn k 0) job s (λ (e : get_or drawn k 0 ≡ job). let b = below k 0 earlier in absurd (omega arith)) (done k earlier)))
      (λ (last : length drawn ≤ k).
      subst (λ (n : ℕ). IsRight leaves tasks (set scratches job s) n) (sym (get_or_push drawn job 0 k (omega arith))) (right_set scratches job s inside left))
      (cases_lt k (length drawn))

  -- the scratch of another list at the same place
  pub right_here : (scratches from : List S) (at : ℕ) (s : S) → at < length scratches → s ≡ get_or from at s → IsRight leaves tasks from at → IsRight leaves tasks (set scratches at s) at
  right_here scratches from at s inside is right = right_set scratches at s inside (λ t is_task. right t s is_task (sym is))

  -- what was right stays right
  pub right_after : (scratches from : List S) (at : ℕ) (s : S) → at < length scratches → s ≡ get_or from at s → IsRight leaves tasks from at → StayRight leaves tasks scratches (set scratches at s)
  right_after scratches from at s inside is right job was =
      ⊎_elim
      (λ (e : job ≡ at). subst (λ (k : ℕ). IsRight leaves tasks (set scratches at s) k) (sym e) (right_here scratches from at s inside is right))
      (λ (ne : job ≢ at). right_other scratches job at s ne was)
      (cases_eq job at)

-- the scratches of the first jobs of a list were exchanged, those of the others weren't
pub record Exchanged {T S : Type 0} (leaves : T → S → Type 0) (tasks : List T) (initial results from : List S) (jobs : List ℕ) (i : ℕ) : Type 0 where
  pub done : (k : ℕ) → k < i → IsRight leaves tasks results (get_or jobs k 0)
  pub others : (k : ℕ) → i ≤ k → k < length jobs → IsRight leaves tasks from (get_or jobs k 0)
  pub kept : StayRight leaves tasks initial results

pub exchanged_none : {T S : Type 0} (leaves : T → S → Type 0) (tasks : List T) (results from : List S) (jobs : List ℕ) → AreDone leaves tasks from jobs → Exchanged leaves tasks results results from jobs 0
exchanged_none leaves tasks results from jobs done = record {
  done = λ k h. absurd (omega arith);
  others = λ k h inside. done k inside;
  kept = λ job was. was;
}

pub exchanged_more : {T S : Type 0} (leaves : T → S → Type 0) (tasks : List T) (initial results from : List S) (jobs : List ℕ) (i at : ℕ) (s u : S) → IsStrictlyIncreasing jobs → i < length jobs → at ≡ get_or jobs i 0
    → at < length results → s ≡ get_or from at s → Exchanged leaves tasks initial results from jobs i → Exchanged leaves tasks initial (set results at s) (set from at u) jobs (i + 1)
exchanged_more leaves tasks initial results from jobs i at s u rises more is_at inside is before =
    let right = subst (λ (n : ℕ). IsRight leaves tasks from n) (sym is_at) (before.others i (omega arith) more) in
    record {
      done = λ k h.
          ⊎_elim
          (λ (earlier : k < i). right_after leaves tasks results from at s inside is right (get_or jobs k 0) (before.done k earlier))
          (λ (here : i ≤ k).
          let e : i ≡ k = omega arith in
          subst (λ (n : ℕ). IsRight leaves tasks (set results at s) (get_or jobs n 0)) e
          (subst (λ (n : ℕ). IsRight leaves tasks (set results at s) n) is_at (right_here leaves tasks results from at s inside is right)))
          (cases_lt k i);
      others = λ k h in_list.
          right_other leaves tasks from (get_or jobs k 0) at u (λ (e : get_or jobs k 0 ≡ at). let r = rises i k (omega arith) in_list in absurd (omega arith)) (before.others k (omega arith) in_list);
      kept = λ job was. right_after leaves tasks results from at s inside is right job (before.kept job was);
    }
