-- Lists in which each number below the next one stands once are reached by the claim machine: the last number is the last of its list; without it
-- the lists are reached, and then its worker draws it and, where it is a job's, performs it.
use Rattle.std.proofs.Common.{◌≡◌, ℕ, zero, suc, ◌+◌, ◌-◌, ◌<◌, ◌≤◌, ◌≢◌, ◌⊎◌, inl, inr, ⊎_elim, add-one, eq-zero-or-pos, Option, Some, None, IsSome, List, [], ◌∷◌, ◌++◌, length, get_or, set, take, replicate, slice_index, refl, sym, ap, ◌∙◌, subst, arith, All, sum_by, length-set}
use Rattle.std.proofs.lemmas.Bool.{cases_eq, cases_lt}
use Rattle.std.proofs.lemmas.List.{get_or_append_left, get_or_push, get_or_default, length_push, length-replicate, get_or-set_same, set-set, set-get_or, take_all, take_more, nil_from_length, same_lists, get_or-replicate}
use Rattle.std.proofs.lemmas.List.Elements.{All-nil, All-append, All-set, All-head, All-tail}
use Rattle.std.proofs.lemmas.List.Sums.{sum_by-cons, sum_by-append, sum_by-set}
use Rattle.crew_board.specs.declared.board.View.{View}
use Rattle.crew_board.specs.Claim.{ClaimMachine, ClaimStep, list_of, last_of, result_of, opened, after, IsOpen, run, IsSchedule, times, times_in, IsStrictlyIncreasing}
use Rattle.crew_board.specs.Claim.ClaimStep.{Draw, Perform}
use Rattle.crew_board.specs.Board.{once_below, IsDrawing}
use Rattle.crew_board.specs.Reach.{all_lists, BoardLaw}
use Rattle.crew_board.proofs.Machine.{some_set, some_here}
use Rattle.crew_board.proofs.Times.{times_push, below_is, below_more, found_in, all_below, rises_front, rises_last}

-- a step more
run_more : (gives : ℕ → ℕ) (s : ClaimMachine) (steps : List ClaimStep) (step : ClaimStep) → run gives s (steps ++ step ∷ []) ≡ after gives (run gives s steps) step
run_more gives s [] step = refl
run_more gives s (first ∷ steps) step = run_more gives (after gives s first) steps step

schedule_more : (gives : ℕ → ℕ) (jobs : ℕ) (s : ClaimMachine) (steps : List ClaimStep) (step : ClaimStep) → IsSchedule gives jobs s steps → IsOpen jobs (run gives s steps) step
    → IsSchedule gives jobs s (steps ++ step ∷ [])
schedule_more gives jobs s [] step is can = (can, tt)
schedule_more gives jobs s (first ∷ steps) step is can = (is.0, schedule_more gives jobs (after gives s first) steps step is.1 can)

-- the machine at the end of some schedule, in which each job that was drawn below a number was performed
record Stops (jobs next performed : ℕ) (lists : List (List ℕ)) (s : ClaimMachine) : Type 0 where
  is_next : s.next ≡ next
  are_drawn : s.drawn ≡ lists
  places : length s.results ≡ jobs
  done : (k : ℕ) → k < performed → k < jobs → IsSome (result_of s k)

record Reached (gives : ℕ → ℕ) (jobs workers next performed : ℕ) (lists : List (List ℕ)) : Type 0 where
  schedule : List ClaimStep
  is : IsSchedule gives jobs (opened jobs workers) schedule
  stops : Stops jobs next performed lists (run gives (opened jobs workers) schedule)

-- a step that is open leads further
step_more : (gives : ℕ → ℕ) (jobs workers next performed : ℕ) (lists : List (List ℕ)) (steps : List ClaimStep) (step : ClaimStep) → IsSchedule gives jobs (opened jobs workers) steps
    → IsOpen jobs (run gives (opened jobs workers) steps) step → Stops jobs next performed lists (after gives (run gives (opened jobs workers) steps) step)
    → Reached gives jobs workers next performed lists
step_more gives jobs workers next performed lists steps step is can stops = record {
  schedule = steps ++ step ∷ [];
  is = schedule_more gives jobs (opened jobs workers) steps step is can;
  stops = subst (λ (s : ClaimMachine). Stops jobs next performed lists s) (sym (run_more gives (opened jobs workers) steps step)) stops;
}

-- a worker's list without its last number, and what it is with it
record Shorter (lists : List (List ℕ)) (w n : ℕ) (l : List ℕ) : Type 0 where
  inside : w < length lists
  was : get_or lists w [] ≡ l ++ n ∷ []

drawn_back : (lists : List (List ℕ)) (w n : ℕ) (l : List ℕ) → Shorter lists w n l → set (set lists w l) w (l ++ n ∷ []) ≡ lists
drawn_back lists w n l short =
    set-set lists w l (l ++ n ∷ []) ∙ ap (λ (m : List ℕ). set lists w m) (sym short.was) ∙ set-get_or lists w []

-- drawing the number again
draw_stops : (gives : ℕ → ℕ) (jobs n : ℕ) (lists : List (List ℕ)) (w : ℕ) (l : List ℕ) (s : ClaimMachine) → Shorter lists w n l → Stops jobs n n (set lists w l) s
    → Stops jobs (n + 1) n lists (after gives s (Draw w))
draw_stops gives jobs n lists w l s short stops = record {
  is_next = ap (λ (m : ℕ). m + 1) stops.is_next;
  are_drawn =
      ap (λ (ls : List (List ℕ)). set ls w (get_or ls w [] ++ s.next ∷ [])) stops.are_drawn
      ∙ ap (λ (m : ℕ). set (set lists w l) w (get_or (set lists w l) w [] ++ m ∷ [])) stops.is_next
      ∙ ap (λ (m : List ℕ). set (set lists w l) w (m ++ n ∷ [])) (get_or-set_same lists w l [] short.inside)
      ∙ drawn_back lists w n l short;
  places = stops.places;
  done = stops.done;
}

draw_open : (jobs n : ℕ) (lists : List (List ℕ)) (w : ℕ) (l : List ℕ) (s : ClaimMachine) → Shorter lists w n l → IsDrawing jobs (l ++ n ∷ []) → Stops jobs n n (set lists w l) s → IsOpen jobs s (Draw w)
draw_open jobs n lists w l s short drawing stops =
    let len : length s.drawn ≡ length lists = ap (λ (ls : List (List ℕ)). length ls) stops.are_drawn ∙ length-set lists w l in
    let inside = short.inside in
    let list : list_of s w ≡ l = ap (λ (ls : List (List ℕ)). get_or ls w []) stops.are_drawn ∙ get_or-set_same lists w l [] short.inside in (
      omega arith,
      subst (λ (m : List ℕ). All (λ job. (job < jobs) × IsSome (result_of s job)) m) (sym list)
          (λ k d h.
          let job = job_below jobs n l k d h drawing in
          (job, stops.done (get_or l k d) (rises_last l n drawing.0 k d h) job)),
    )
  where
    job_below : (jobs n : ℕ) (l : List ℕ) (k d : ℕ) → k < length l → IsDrawing jobs (l ++ n ∷ []) → get_or l k d < jobs
    job_below jobs n l k d h drawing =
        let longer = length_push l n in
        let same = get_or_append_left l (n ∷ []) 0 k h in
        let plain = get_or_default l k d 0 h in
        let job = drawing.1 k (omega arith) in omega arith

-- performing it
last_is : (lists : List (List ℕ)) (w n : ℕ) (l : List ℕ) (s : ClaimMachine) → Shorter lists w n l → s.drawn ≡ lists → last_of s w ≡ n
last_is lists w n l s short are =
    let list : list_of s w ≡ l ++ n ∷ [] = ap (λ (ls : List (List ℕ)). get_or ls w []) are ∙ short.was in
    ap (λ (m : List ℕ). get_or m (length m - 1) 0) list ∙ get_or_push l n 0 (length (l ++ n ∷ []) - 1) (let longer = length_push l n in omega arith)

perform_open : (jobs n : ℕ) (lists : List (List ℕ)) (w : ℕ) (l : List ℕ) (s : ClaimMachine) → Shorter lists w n l → n < jobs → Stops jobs (n + 1) n lists s → IsOpen jobs s (Perform w)
perform_open jobs n lists w l s short is_job stops =
    let len : length s.drawn ≡ length lists = ap (λ (ls : List (List ℕ)). length ls) stops.are_drawn in
    let inside = short.inside in
    let list : length (list_of s w) ≡ length (l ++ n ∷ []) = ap (λ (ls : List (List ℕ)). length (get_or ls w [])) stops.are_drawn ∙ ap (λ (m : List ℕ). length m) short.was in
    let longer = length_push l n in
    let last = last_is lists w n l s short stops.are_drawn in
    (omega arith, omega arith, omega arith)

perform_stops : (gives : ℕ → ℕ) (jobs n : ℕ) (lists : List (List ℕ)) (w : ℕ) (l : List ℕ) (s : ClaimMachine) → Shorter lists w n l → n < jobs → Stops jobs (n + 1) n lists s
    → Stops jobs (n + 1) (n + 1) lists (after gives s (Perform w))
perform_stops gives jobs n lists w l s short is_job stops =
    let last : last_of s w ≡ n = last_is lists w n l s short stops.are_drawn in
    let places = stops.places in
    let inside : last_of s w < length s.results = omega arith in
    record {
      is_next = stops.is_next;
      are_drawn = stops.are_drawn;
      places = length-set s.results (last_of s w) (Some (gives (last_of s w))) ∙ stops.places;
      done = λ k h job.
          ⊎_elim
          (λ (e : k ≡ last_of s w). some_here s.results k (last_of s w) (gives (last_of s w)) inside e)
          (λ (ne : k ≢ last_of s w). some_set s.results k (last_of s w) (gives (last_of s w)) inside (stops.done k (omega arith) job))
          (cases_eq k (last_of s w));
    }

-- a number that is no job's needs no performing
past_stops : (jobs n : ℕ) (lists : List (List ℕ)) (s : ClaimMachine) → jobs ≤ n → Stops jobs (n + 1) n lists s → Stops jobs (n + 1) (n + 1) lists s
past_stops jobs n lists s past stops = record {
  is_next = stops.is_next;
  are_drawn = stops.are_drawn;
  places = stops.places;
  done = λ k h job. stops.done k (omega arith) job;
}

-- one number more is reached
reach_more : (gives : ℕ → ℕ) (jobs workers n : ℕ) (lists : List (List ℕ)) (w : ℕ) (l : List ℕ) → Shorter lists w n l → IsDrawing jobs (l ++ n ∷ []) → Reached gives jobs workers n n (set lists w l)
    → Reached gives jobs workers (n + 1) (n + 1) lists
reach_more gives jobs workers n lists w l short drawing before =
    let s : ClaimMachine = run gives (opened jobs workers) before.schedule in
    let drew : Reached gives jobs workers (n + 1) n lists =
    step_more gives jobs workers (n + 1) n lists before.schedule (Draw w) before.is (draw_open jobs n lists w l s short drawing before.stops) (draw_stops gives jobs n lists w l s short before.stops) in
    let t : ClaimMachine = run gives (opened jobs workers) drew.schedule in
    ⊎_elim
    (λ (is_job : n < jobs).
    step_more gives jobs workers (n + 1) (n + 1) lists drew.schedule (Perform w) drew.is (perform_open jobs n lists w l t short is_job drew.stops)
    (perform_stops gives jobs n lists w l t short is_job drew.stops))
    (λ (past : jobs ≤ n). record { schedule = drew.schedule; is = drew.is; stops = past_stops jobs n lists t past drew.stops })
    (cases_lt n jobs)

-- lists in which nothing stands
none_drawn : (workers : ℕ) (lists : List (List ℕ)) → length lists ≡ workers → ((number : ℕ) → times_in number lists ≡ once_below number 0) → replicate {A = List ℕ} workers [] ≡ lists
none_drawn workers lists count counts =
    let len = length-replicate {A = List ℕ} workers [] in
    same_lists (replicate {A = List ℕ} workers []) lists (omega arith)
    (λ k d h.
    let inside : k < length lists = omega arith in
    get_or-replicate {A = List ℕ} workers k [] d (omega arith)
    ∙ sym (nil_from_length (get_or lists k []) (none_at k inside)) ∙ get_or_default lists k [] d inside)
  where
    none_at : (k : ℕ) → k < length lists → length (get_or lists k []) ≡ 0
    none_at k inside =
        ⊎_elim
        (λ (none : length (get_or lists k []) ≡ 0). none)
        (λ (some_ : 0 < length (get_or lists k [])). let below = all_below 0 lists counts k 0 inside some_ in absurd (omega arith))
        (eq-zero-or-pos (length (get_or lists k [])))

-- the last number stands at the end of its list
at_end : (n : ℕ) (l : List ℕ) (i : ℕ) → IsStrictlyIncreasing l → ((j : ℕ) → j < length l → get_or l j 0 < n + 1) → i < length l → get_or l i 0 ≡ n → l ≡ take i l ++ n ∷ []
at_end n l i rises below inside is =
    let last : length l ≤ i + 1 =
    ⊎_elim
    (λ (h : length l ≤ i + 1). h)
    (λ (h : i + 1 < length l). let r = rises i (i + 1) (omega arith) h in let b = below (i + 1) h in absurd (omega arith))
    (cases_le (length l) (i + 1)) in
    sym (take_all (i + 1) l last) ∙ take_more l i 0 inside ∙ ap (λ (m : ℕ). take i l ++ m ∷ []) is
  where
    cases_le : (a b : ℕ) → (a ≤ b) ⊎ (b < a)
    cases_le a b = ⊎_elim (λ (h : b < a). inr h) (λ (h : a ≤ b). inl h) (cases_lt b a)

-- without it
counts_shorter : (n : ℕ) (lists : List (List ℕ)) (w : ℕ) (l : List ℕ) → Shorter lists w n l → ((number : ℕ) → times_in number lists ≡ once_below number (n + 1))
    → (number : ℕ) → times_in number (set lists w l) ≡ once_below number n
counts_shorter n lists w l short counts number =
    let one = sum_by-set (times number) lists w l [] short.inside in
    let was : times number (get_or lists w []) ≡ times number (l ++ n ∷ []) = ap (times number) short.was in
    let push = times_push number n l in
    let more = below_more number n in
    let count = counts number in omega arith

drawing_shorter : (jobs n : ℕ) (l : List ℕ) → IsDrawing jobs (l ++ n ∷ []) → IsDrawing jobs l
drawing_shorter jobs n l drawing = (
  rises_front l n drawing.0,
  (λ k h. let longer = length_push l n in let same = get_or_append_left l (n ∷ []) 0 k (omega arith) in let job = drawing.1 k (omega arith) in omega arith),
)

-- where its last number stands
record Last (jobs n : ℕ) (lists : List (List ℕ)) : Type 0 where
  w : ℕ
  l : List ℕ
  short : Shorter lists w n l
  drawing : IsDrawing jobs (l ++ n ∷ [])

last_of_all : (jobs n : ℕ) (lists : List (List ℕ)) → ((number : ℕ) → times_in number lists ≡ once_below number (n + 1)) → All (IsDrawing jobs) lists → Last jobs n lists
last_of_all jobs n lists counts drawing =
    let at = found_in n lists (let c = counts n in let b = below_is n (n + 1) (omega arith) in omega arith) in
    let w : ℕ = at.0 in
    let here : List ℕ = get_or lists w [] in
    let is : here ≡ take at.2.0 here ++ n ∷ [] =
    at_end n here at.2.0 (drawing w [] at.1).0 (λ j h. all_below (n + 1) lists counts w j at.1 h) at.2.1 at.2.2 in
    record { w = w; l = take at.2.0 here; short = record { inside = at.1; was = is }; drawing = subst (IsDrawing jobs) is (drawing w [] at.1) }

reach : (gives : ℕ → ℕ) (jobs workers next : ℕ) (lists : List (List ℕ)) → length lists ≡ workers → ((number : ℕ) → times_in number lists ≡ once_below number next) → All (IsDrawing jobs) lists
    → Reached gives jobs workers next next lists
reach gives jobs workers zero lists count counts drawing = record {
  schedule = [];
  is = tt;
  stops = record {
    is_next = refl;
    are_drawn = none_drawn workers lists count counts;
    places = length-replicate {A = Option ℕ} jobs None;
    done = λ k h. absurd (omega arith);
  };
}
reach gives jobs workers (suc n) lists count counts drawing =
    let counts_more : (number : ℕ) → times_in number lists ≡ once_below number (n + 1) = λ number. counts number ∙ ap (λ (m : ℕ). once_below number m) (sym (add-one n)) in
    let last : Last jobs n lists = last_of_all jobs n lists counts_more drawing in
    let before : Reached gives jobs workers n n (set lists last.w last.l) =
    reach gives jobs workers n (set lists last.w last.l) (length-set lists last.w last.l ∙ count) (counts_shorter n lists last.w last.l last.short counts_more)
    (All-set (IsDrawing jobs) lists last.w last.l (drawing_shorter jobs n last.l last.drawing) drawing) in
    subst (λ (m : ℕ). Reached gives jobs workers m m lists) (add-one n) (reach_more gives jobs workers n lists last.w last.l last.short last.drawing before)

-- the lists of all views
times_all : (number : ℕ) (views : List View) → times_in number (all_lists views) ≡ sum_by (λ (v : View). times_in number v.lists) views
times_all number [] = refl
times_all number (v ∷ views) =
    sum_by-append (times number) v.lists (all_lists views)
    ∙ ap (λ (m : ℕ). times_in number v.lists + m) (times_all number views) ∙ sym (sum_by-cons (λ (u : View). times_in number u.lists) v views)

drawing_all : (jobs : ℕ) (views : List View) → All (λ (v : View). All (IsDrawing jobs) v.lists) views → All (IsDrawing jobs) (all_lists views)
drawing_all jobs [] all = All-nil (IsDrawing jobs)
drawing_all jobs (v ∷ views) all =
    All-append (IsDrawing jobs) v.lists (all_lists views) (All-head (λ (u : View). All (IsDrawing jobs) u.lists) v views all)
    (drawing_all jobs views (All-tail (λ (u : View). All (IsDrawing jobs) u.lists) v views all))

pub board_law_holds : BoardLaw
board_law_holds gives jobs s keeps =
    let lists : List (List ℕ) = all_lists s.views in
    let next : ℕ = slice_index s.words 0 in
    let reached : Reached gives jobs (length lists) next next lists =
    reach gives jobs (length lists) next lists refl (λ number. times_all number s.views ∙ keeps.1.counts number) (drawing_all jobs s.views keeps.1.lists) in
    (reached.schedule, reached.is, reached.stops.is_next, reached.stops.are_drawn)
