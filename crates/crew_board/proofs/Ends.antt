-- What the lists at the end of a run say of what the workers drew.
use Rattle.std.proofs.Common.{◌≡◌, ℕ, suc, ◌+◌, ◌<◌, ◌≤◌, ◌≢◌, ⊎_elim, true, List, [], ◌∷◌, ◌++◌, length, get_or, take, slice_index, refl, sym, ap, ◌∙◌, subst, arith, All, eq-zero-or-pos}
use Rattle.std.proofs.lemmas.Bool.{cases_eq, cases_lt}
use Rattle.std.proofs.lemmas.List.{take_more}
use Rattle.std.proofs.lemmas.List.Elements.{length_all_zip, AllZip-push}
use Rattle.atomic_table.specs.Table.{State, Seen}
use Rattle.crew_board.specs.declared.board.View.{View}
use Rattle.crew_board.specs.Claim.{times, times_in, IsStrictlyIncreasing}
use Rattle.crew_board.specs.Board.{once_below, Keeps}
use Rattle.crew_board.specs.Seats.{EndsPast, AreEnds, jobs_at}
use Rattle.crew_board.proofs.Times.{one_if_same, one_if_other, times-cons, times_push, times_in-cons, times_rising, stands, found, below_is, not_below_is}
use Rattle.crew_board.proofs.Ruled.{all_joined}

-- jobs at different places of a list that rises are different
rising_differ : (chosen : List ℕ) (i j : ℕ) → IsStrictlyIncreasing chosen → i < length chosen → j < length chosen → i ≢ j → get_or chosen i 0 ≢ get_or chosen j 0
rising_differ chosen i j rises in_i in_j differ = λ (e : get_or chosen i 0 ≡ get_or chosen j 0).
    ⊎_elim
    (λ (before : i < j). let r = rises i j before in_j in omega arith)
    (λ (behind : j ≤ i). ⊎_elim (λ (same : i ≡ j). absurd (differ same)) (λ (ne : i ≢ j). let r = rises j i (omega arith) in_i in omega arith) (cases_eq i j))
    (cases_lt i j)

-- a job stands among the jobs of some places as often as its place among these
times_at : (chosen places : List ℕ) (k : ℕ) → IsStrictlyIncreasing chosen → k < length chosen → All (λ place. place < length chosen) places
    → times (get_or chosen k 0) (jobs_at chosen places) ≡ times k places
times_at chosen [] k rises inside all = refl
times_at chosen (p ∷ places) k rises inside all =
    let at : ℕ = get_or chosen k 0 in
    let here : ℕ = get_or chosen p 0 in
    let in_p : p < length chosen = all 0 p (omega arith) in
    let later = times_at chosen places k rises inside (λ m d h. all (suc m) d (omega arith)) in
    let a : times at (jobs_at chosen (p ∷ places)) ≡ _ = times-cons at here (jobs_at chosen places) in
    let b = times-cons k p places in
    ⊎_elim
    (λ (e : p ≡ k).
    let x = one_if_same here at (ap (λ (n : ℕ). get_or chosen n 0) e) in let y = one_if_same p k e in omega arith)
    (λ (ne : p ≢ k).
    let x = one_if_other here at (rising_differ chosen p k rises in_p inside ne) in let y = one_if_other p k ne in omega arith)
    (cases_eq p k)

-- what isn't chosen stands at no place
times_left_out : (chosen places : List ℕ) (job : ℕ) → All (λ place. place < length chosen) places → ((k : ℕ) → k < length chosen → get_or chosen k 0 ≢ job)
    → times job (jobs_at chosen places) ≡ 0
times_left_out chosen [] job all none = refl
times_left_out chosen (p ∷ places) job all none =
    let later = times_left_out chosen places job (λ m d h. all (suc m) d (omega arith)) none in
    let a = times-cons job (get_or chosen p 0) (jobs_at chosen places) in
    let x = one_if_other (get_or chosen p 0) job (none p (all 0 p (omega arith))) in
    omega arith

-- the numbers past the places change nothing
times_ends : (chosen : List ℕ) (k : ℕ) (draws lists : List (List ℕ)) → IsStrictlyIncreasing chosen → k < length chosen → AreEnds chosen draws lists
    → times_in (get_or chosen k 0) draws ≡ times_in k lists
times_ends chosen k [] [] rises is_place ends = refl
times_ends chosen k [] (l ∷ lists) rises is_place ends = absurd ends
times_ends chosen k (d ∷ draws) [] rises is_place ends = absurd ends
times_ends chosen k (d ∷ draws) (l ∷ lists) rises is_place ends =
    let job : ℕ = get_or chosen k 0 in
    let first = ends.0 in
    let past : ℕ = first.past in let is_past = first.is_past in
    let places : List ℕ = first.places in
    let same : times k l ≡ times k (places ++ past ∷ []) = ap (times k) first.is in
    let named : times job d ≡ times job (jobs_at chosen places) = ap (times job) first.named in
    let at = times_at chosen places k rises is_place first.inside in
    let push = times_push k past places in
    let other = one_if_other past k (λ (e : past ≡ k). omega arith) in
    let a = times_in-cons job d draws in
    let b = times_in-cons k l lists in
    let later = times_ends chosen k draws lists rises is_place ends.1 in
    omega arith

-- what isn't chosen wasn't drawn
none_ends : (chosen : List ℕ) (job : ℕ) (draws lists : List (List ℕ)) → ((k : ℕ) → k < length chosen → get_or chosen k 0 ≢ job) → AreEnds chosen draws lists
    → times_in job draws ≡ 0
none_ends chosen job [] [] none ends = refl
none_ends chosen job [] (l ∷ lists) none ends = absurd ends
none_ends chosen job (d ∷ draws) [] none ends = absurd ends
none_ends chosen job (d ∷ draws) (l ∷ lists) none ends =
    let first = ends.0 in
    let named : times job d ≡ times job (jobs_at chosen first.places) = ap (times job) first.named in
    let left = times_left_out chosen first.places job first.inside none in
    let a = times_in-cons job d draws in
    let later = none_ends chosen job draws lists none ends.1 in
    omega arith

-- the first worker drew a number past the places
drew_past : (chosen : List ℕ) (draws lists : List (List ℕ)) → 0 < length draws → AreEnds chosen draws lists → (past : ℕ) × (length chosen ≤ past) × (0 < times_in past lists)
drew_past chosen [] lists some_ ends = absurd (omega arith)
drew_past chosen (d ∷ draws) [] some_ ends = absurd ends
drew_past chosen (d ∷ draws) (l ∷ lists) some_ ends =
    let first = ends.0 in
    let past : ℕ = first.past in
    let places : List ℕ = first.places in
    let same : times past l ≡ times past (places ++ past ∷ []) = ap (times past) first.is in
    let push = times_push past past places in
    let one = one_if_same past past refl in
    let b = times_in-cons past l lists in
    (past, first.is_past, omega arith)

-- each place was drawn once
place_once : (chosen : List ℕ) (n k : ℕ) (draws lists : List (List ℕ)) → 0 < length draws → AreEnds chosen draws lists → ((number : ℕ) → times_in number lists ≡ once_below number n)
    → k < length chosen → times_in k lists ≡ 1
place_once chosen n k draws lists some_ ends counts is_place =
    let past = drew_past chosen draws lists some_ ends in
    let number : ℕ = past.0 in let is_past = past.1 in let stands = past.2 in
    let count = counts number in
    let below : number < n = ⊎_elim (λ (h : number < n). h) (λ (h : n ≤ number). let none = not_below_is number n h in absurd (omega arith)) (cases_lt number n) in
    counts k ∙ below_is k n (omega arith)

-- each job was drawn as often as it was chosen
drawn_once : (chosen : List ℕ) (n : ℕ) (draws lists : List (List ℕ)) → IsStrictlyIncreasing chosen → 0 < length draws → AreEnds chosen draws lists
    → ((number : ℕ) → times_in number lists ≡ once_below number n) → (job : ℕ) → times_in job draws ≡ times job chosen
drawn_once chosen n draws lists rises some_ ends counts job =
    ⊎_elim
    (λ (none : times job chosen ≡ 0).
    none_ends chosen job draws lists (λ k inside (e : get_or chosen k 0 ≡ job). let here = stands job chosen k inside e in omega arith) ends ∙ sym none)
    (λ (some_times : 0 < times job chosen).
    let at = found job chosen some_times in
    let k : ℕ = at.0 in
    let inside : k < length chosen = at.1 in
    let once = times_ends chosen k draws lists rises inside ends ∙ place_once chosen n k draws lists some_ ends counts inside in
    let drawn : times_in job draws ≡ 1 = subst (λ (number : ℕ). times_in number draws ≡ 1) at.2 once in
    let most = times_rising job chosen rises in
    omega arith)
    (eq-zero-or-pos (times job chosen))

-- the same of a board that was closed with the first seat's view
pub closed_once : (chosen : List ℕ) (id : ℕ) (v : View) (s : State ℕ View) (draws : List (List ℕ)) → IsStrictlyIncreasing chosen → Seen (Keeps (length chosen)) id v s → v.first ≡ true
    → v.split ≡ length draws → 0 < length draws → AreEnds chosen draws v.lists → (job : ℕ) → times_in job draws ≡ times job chosen
closed_once chosen id v s draws rises seen first split some_ ends =
    drawn_once chosen (slice_index s.words 0) draws v.lists rises some_ ends
    (all_joined (length chosen) (slice_index s.words 0) s.views id v seen.0.1 seen.1 first (let n = length_all_zip (EndsPast chosen) draws v.lists ends in omega arith))

-- one list more
pub ends_more : (chosen : List ℕ) (i : ℕ) (draws lists all : List (List ℕ)) (drawn list : List ℕ) → i < length draws → get_or draws i [] ≡ drawn → EndsPast chosen drawn list → all ≡ lists ++ list ∷ []
    → AreEnds chosen (take i draws) lists → AreEnds chosen (take (i + 1) draws) all
ends_more chosen i draws lists all drawn list inside at one is ends =
    let more = take_more draws i [] inside ∙ ap (λ (l : List ℕ). take i draws ++ l ∷ []) at in
    subst (λ (ds : List (List ℕ)). AreEnds chosen ds all) (sym more)
    (subst (λ (ls : List (List ℕ)). AreEnds chosen (take i draws ++ drawn ∷ []) ls) (sym is)
    (AllZip-push (EndsPast chosen) (take i draws) lists drawn list ends one))
