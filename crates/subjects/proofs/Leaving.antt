-- What lists of calls leave of a crowd.
use Rattle.std.proofs.Common.{◌≡◌, ℕ, Bool, true, false, not, cond, List, [], ◌∷◌, ◌++◌, map, refl, sym, ap, ◌∙◌}
use Rattle.std.specs.Prelude.{filter, bytes_eq}
use Rattle.subjects.specs.Plans.{Plan, Simulated, cycled, restarted}
use Rattle.subjects.specs.Crowds.{is_named, restarted_if, without}
use Rattle.subjects.specs.Calls.{Call, Cycle, Restart, Delete, RestartAll, after_call, after_calls, deletes, is_deleted, lasting, LeaveForGood}
use Rattle.subjects.proofs.Filters.{all_stay, both_tests, map_filter}

-- a change that leaves name and plan
lasts : (f : Simulated → Simulated) → ((s : Simulated) → lasting (f s) ≡ lasting s) → (subjects : List Simulated) → map lasting (map f subjects) ≡ map lasting subjects
lasts f same [] = refl
lasts f same (s ∷ subjects) =
    ap (λ (one : List ℕ × Plan). one ∷ map lasting (map f subjects)) (same s)
    ∙ ap (λ (rest : List (List ℕ × Plan)). lasting s ∷ rest) (lasts f same subjects)

restart_lasts : (name : List ℕ) (s : Simulated) → lasting (restarted_if name s) ≡ lasting s
unfolding restarted_if
restart_lasts name s = by_case (is_named name s)
  where
    by_case : (b : Bool) → lasting (cond b (restarted s) s) ≡ lasting s
    by_case true = refl
    by_case false = refl

others_stay : (name : List ℕ) (subjects : List Simulated) → map lasting (without name subjects) ≡ filter (λ s. not (bytes_eq s.0 name)) (map lasting subjects)
unfolding is_named
others_stay name subjects = map_filter lasting (λ s. not (bytes_eq s.0 name)) subjects

one_call : (subjects : List Simulated) (call : Call) → map lasting (after_call subjects call) ≡ filter (λ s. not (deletes s.0 call)) (map lasting subjects)
one_call subjects Cycle = lasts cycled (λ _. refl) subjects ∙ sym (all_stay (map lasting subjects))
one_call subjects (Restart name) = lasts (restarted_if name) (restart_lasts name) subjects ∙ sym (all_stay (map lasting subjects))
one_call subjects (Delete name) = others_stay name subjects
one_call subjects RestartAll = lasts restarted (λ _. refl) subjects ∙ sym (all_stay (map lasting subjects))

pub leave_for_good : LeaveForGood
leave_for_good subjects [] = sym (all_stay (map lasting subjects))
leave_for_good subjects (call ∷ calls) =
    leave_for_good (after_call subjects call) calls
    ∙ ap (filter (λ s. not (is_deleted calls s.0))) (one_call subjects call)
    ∙ both_tests (λ s. deletes s.0 call) (λ s. is_deleted calls s.0) (map lasting subjects)

pub calls_more : (subjects : List Simulated) (calls : List Call) (call : Call) → after_calls subjects (calls ++ call ∷ []) ≡ after_call (after_calls subjects calls) call
calls_more subjects [] call = refl
calls_more subjects (first ∷ calls) call = calls_more (after_call subjects first) calls call
