-- Every schedule of the claim machine keeps what the law rests on.
use Rattle.std.proofs.Common.{◌≡◌, ℕ, ◌+◌, ◌<◌, ◌≤◌, ◌≢◌, ◌⊎◌, inl, inr, ⊎_elim, Option, Some, None, IsSome, is_some, true≢false, List, [], ◌∷◌, ◌++◌, length, get_or, set, replicate, refl, sym, ap, ◌∙◌, subst, arith, All, length-set}
use Rattle.std.proofs.lemmas.Bool.{cases_eq, cases_lt}
use Rattle.std.proofs.lemmas.List.{get_or_append_left, length_push, length-replicate, get_or-replicate, get_or-set_same, get_or-set_other, get_or_past, get_or_default}
use Rattle.std.proofs.lemmas.List.Elements.{All-set, All-replicate}
use Rattle.std.proofs.lemmas.List.Sums.{sum_by-set}
use Rattle.crew_board.specs.Claim.{ClaimMachine, ClaimStep, list_of, last_of, result_of, opened, after, IsOpen, run, IsSchedule, IsFinished, times, times_in, IsStrictlyIncreasing, ClaimLaw}
use Rattle.crew_board.specs.Claim.ClaimStep.{Draw, Perform}
use Rattle.crew_board.specs.Board.{once_below}
use Rattle.crew_board.specs.Work.{StandsIn}
use Rattle.crew_board.proofs.Times.{times_in_none, times_push, below_is, not_below_is, below_more, found_in, all_below, rises_push, rises_none}

-- all but the last number of a list are jobs that were performed
abbrev EarlyDone : ℕ → List (Option ℕ) → List ℕ → Type 0
EarlyDone jobs results l = (i : ℕ) → i + 1 < length l → (get_or l i 0 < jobs) × IsSome (get_or results (get_or l i 0) None)

-- a place holds nothing, or what performing its job gives
abbrev IsRightOrNone : (ℕ → ℕ) → List (Option ℕ) → ℕ → Type 0
IsRightOrNone gives results k = (get_or results k None ≡ None) ⊎ (get_or results k None ≡ Some (gives k))

record Sound (gives : ℕ → ℕ) (jobs workers : ℕ) (s : ClaimMachine) : Type 0 where
  crew : length s.drawn ≡ workers
  places : length s.results ≡ jobs
  counts : (k : ℕ) → times_in k s.drawn ≡ once_below k s.next
  rising : All IsStrictlyIncreasing s.drawn
  early : All (EarlyDone jobs s.results) s.drawn
  right : (k : ℕ) → IsRightOrNone gives s.results k

opened_results : (gives : ℕ → ℕ) (jobs k : ℕ) → IsRightOrNone gives (replicate {A = Option ℕ} jobs None) k
opened_results gives jobs k =
    ⊎_elim
    (λ (h : k < jobs). inl (get_or-replicate {A = Option ℕ} jobs k None None h))
    (λ (h : jobs ≤ k). inl (get_or_past (replicate {A = Option ℕ} jobs None) k None (let n = length-replicate {A = Option ℕ} jobs None in omega arith)))
    (cases_lt k jobs)

opened_is : (gives : ℕ → ℕ) (jobs workers : ℕ) → Sound gives jobs workers (opened jobs workers)
opened_is gives jobs workers = record {
  crew = length-replicate {A = List ℕ} workers [];
  places = length-replicate {A = Option ℕ} jobs None;
  counts = λ k. times_in_none k workers ∙ sym (not_below_is k 0 (omega arith));
  rising = All-replicate IsStrictlyIncreasing workers [] rises_none;
  early = All-replicate (EarlyDone jobs (replicate {A = Option ℕ} jobs None)) workers [] (λ i h. absurd (omega arith));
  right = opened_results gives jobs;
}

-- one worker draws the next number
counts_draw : (k next : ℕ) (ls : List (List ℕ)) (w : ℕ) → w < length ls → times_in k ls ≡ once_below k next
    → times_in k (set ls w (get_or ls w [] ++ next ∷ [])) ≡ once_below k (next + 1)
counts_draw k next ls w h count =
    let one = sum_by-set (times k) ls w (get_or ls w [] ++ next ∷ []) [] h in
    let push = times_push k next (get_or ls w []) in
    let more = below_more k next in omega arith

early_draw : (jobs : ℕ) (results : List (Option ℕ)) (l : List ℕ) (n : ℕ) → All (λ k. (k < jobs) × IsSome (get_or results k None)) l → EarlyDone jobs results (l ++ n ∷ [])
early_draw jobs results l n done i h =
    let len = length_push l n in
    let inside : i < length l = omega arith in
    subst (λ (k : ℕ). (k < jobs) × IsSome (get_or results k None)) (sym (get_or_append_left l (n ∷ []) 0 i inside)) (done i 0 inside)

-- a result more
pub some_here : (results : List (Option ℕ)) (k at n : ℕ) → at < length results → k ≡ at → IsSome (get_or (set results at (Some n)) k None)
some_here results k at n h e =
    subst (λ (j : ℕ). IsSome (get_or (set results at (Some n)) j None)) (sym e) (subst IsSome (sym (get_or-set_same results at (Some n) None h)) refl)

pub some_set : (results : List (Option ℕ)) (k at n : ℕ) → at < length results → IsSome (get_or results k None) → IsSome (get_or (set results at (Some n)) k None)
some_set results k at n h is =
    ⊎_elim
    (λ (e : k ≡ at). some_here results k at n h e)
    (λ (ne : k ≢ at). subst IsSome (sym (get_or-set_other results at k (Some n) None ne)) is)
    (cases_eq k at)

right_set : (gives : ℕ → ℕ) (results : List (Option ℕ)) (at k : ℕ) → at < length results → IsRightOrNone gives results k → IsRightOrNone gives (set results at (Some (gives at))) k
right_set gives results at k h is =
    ⊎_elim
    (λ (e : k ≡ at). inr (subst (λ (j : ℕ). get_or (set results at (Some (gives at))) j None ≡ Some (gives j)) (sym e) (get_or-set_same results at (Some (gives at)) None h)))
    (λ (ne : k ≢ at). subst (λ (o : Option ℕ). (o ≡ None) ⊎ (o ≡ Some (gives k))) (sym (get_or-set_other results at k (Some (gives at)) None ne)) is)
    (cases_eq k at)

step_keeps : (gives : ℕ → ℕ) (jobs workers : ℕ) (s : ClaimMachine) (step : ClaimStep) → Sound gives jobs workers s → IsOpen jobs s step → Sound gives jobs workers (after gives s step)
step_keeps gives jobs workers s (Draw w) sound can = record {
  crew = length-set s.drawn w (list_of s w ++ s.next ∷ []) ∙ sound.crew;
  places = sound.places;
  counts = λ k. counts_draw k s.next s.drawn w can.0 (sound.counts k);
  rising = All-set IsStrictlyIncreasing s.drawn w (list_of s w ++ s.next ∷ [])
      (rises_push (list_of s w) s.next (sound.rising w [] can.0)
      (λ i d h. subst (λ (m : ℕ). m < s.next) (get_or_default (list_of s w) i 0 d h) (all_below s.next s.drawn sound.counts w i can.0 h)))
      sound.rising;
  early = All-set (EarlyDone jobs s.results) s.drawn w (list_of s w ++ s.next ∷ []) (early_draw jobs s.results (list_of s w) s.next can.1) sound.early;
  right = sound.right;
}
step_keeps gives jobs workers s (Perform w) sound can = record {
  crew = sound.crew;
  places = length-set s.results (last_of s w) (Some (gives (last_of s w))) ∙ sound.places;
  counts = sound.counts;
  rising = sound.rising;
  early = λ v d h i later. let was = sound.early v d h i later in
      (was.0, some_set s.results (get_or (get_or s.drawn v d) i 0) (last_of s w) (gives (last_of s w)) (let p = sound.places in let c = can.2 in omega arith) was.1);
  right = λ k. right_set gives s.results (last_of s w) k (let p = sound.places in let c = can.2 in omega arith) (sound.right k);
}

run_keeps : (gives : ℕ → ℕ) (jobs workers : ℕ) (steps : List ClaimStep) (s : ClaimMachine) → Sound gives jobs workers s → IsSchedule gives jobs s steps → Sound gives jobs workers (run gives s steps)
run_keeps gives jobs workers [] s sound is = sound
run_keeps gives jobs workers (step ∷ steps) s sound is = run_keeps gives jobs workers steps (after gives s step) (step_keeps gives jobs workers s step sound is.0) is.1

-- the next number is past the jobs once a worker drew a number that is no job's
past_jobs : (gives : ℕ → ℕ) (jobs workers : ℕ) (s : ClaimMachine) → 0 < workers → Sound gives jobs workers s → IsFinished jobs s → jobs < s.next
past_jobs gives jobs workers s some_worker sound finished =
    let crew = sound.crew in
    let first : 0 < length s.drawn = omega arith in
    let past = finished 0 [] first in
    let below = all_below s.next s.drawn sound.counts 0 past.0 first past.1 in
    let is = past.2 in omega arith

-- a job that a worker drew before its last number has its result
drawn_result : (gives : ℕ → ℕ) (jobs workers : ℕ) (s : ClaimMachine) (job : ℕ) → Sound gives jobs workers s → IsFinished jobs s → job < jobs → StandsIn job s.drawn → result_of s job ≡ Some (gives job)
drawn_result gives jobs workers s job sound finished is_job found =
    let w : ℕ = found.0 in let i : ℕ = found.2.0 in
    let past = finished w [] found.1 in
    let e = found.2.2 in
    let later : i + 1 < length (get_or s.drawn w []) =
    ⊎_elim
    (λ (h : i < past.0). let p = past.1 in omega arith)
    (λ (h : past.0 ≤ i). let p = past.2 in let order = no_earlier (get_or s.drawn w []) (sound.rising w [] found.1) past.0 i h found.2.1 in absurd (omega arith))
    (cases_lt i past.0) in
    let some_ = subst (λ (k : ℕ). IsSome (get_or s.results k None)) e (sound.early w [] found.1 i later).1 in
    by_cases (get_or s.results job None) some_ (sound.right job)
  where
    no_earlier : (l : List ℕ) → IsStrictlyIncreasing l → (i j : ℕ) → i ≤ j → j < length l → get_or l i 0 ≤ get_or l j 0
    no_earlier l rises i j h in_list =
        ⊎_elim (λ (e : i ≡ j). subst (λ (k : ℕ). get_or l i 0 ≤ get_or l k 0) e (omega arith)) (λ (ne : i ≢ j). let r = rises i j (omega arith) in_list in omega arith) (cases_eq i j)

    some_none : (o : Option ℕ) → IsSome o → o ≡ None → ⊥
    some_none o is none = true≢false (sym is ∙ ap (λ (p : Option ℕ). is_some p) none)

    by_cases : (o : Option ℕ) → IsSome o → (o ≡ None) ⊎ (o ≡ Some (gives job)) → o ≡ Some (gives job)
    by_cases o is right = ⊎_elim (λ (none : o ≡ None). absurd (some_none o is none)) (λ (e : o ≡ Some (gives job)). e) right

pub claim_law_holds : ClaimLaw
claim_law_holds gives jobs workers schedule some_worker is finished =
    let end : ClaimMachine = run gives (opened jobs workers) schedule in
    let sound : Sound gives jobs workers end = run_keeps gives jobs workers schedule (opened jobs workers) (opened_is gives jobs workers) is in
    let past : jobs < end.next = past_jobs gives jobs workers end some_worker sound finished in
    let once : (job : ℕ) → job < jobs → times_in job end.drawn ≡ 1 = λ job h. sound.counts job ∙ below_is job end.next (omega arith) in
    record {
      once = once;
      rising = sound.rising;
      count = sound.places;
      results = λ job h. drawn_result gives jobs workers end job sound finished h (found_in job end.drawn (let o = once job h in omega arith));
    }
