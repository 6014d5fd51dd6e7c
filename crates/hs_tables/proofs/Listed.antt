-- An entry without a reason to be refused has an action that there is.
use Rattle.std.proofs.Common.{◌≡◌, ◌≢◌, ℕ, ◌+◌, ◌<◌, ◌≤◌, Bool, true, false, cond, not, ◌&&◌, List, [], ◌∷◌, Option, Some, None, refl, arith}
use Rattle.std.specs.Prelude.{◌==◌, nat_lt, is_none}
use Rattle.std.specs.List.{All}
use Rattle.std.proofs.lemmas.Bool.{ltb-false, eqb-false}
use Rattle.std.proofs.lemmas.List.Elements.{All-nil, All-cons, All-weaker}
use Rattle.table_files.specs.Entries.{fault_or, first_fault}
use Rattle.table_files.specs.declared.fault.EntryFault.{EntryFault}
use Rattle.hs_tables.specs.Apps as apps
use Rattle.hs_tables.specs.Events as events
use Rattle.hs_tables.specs.declared.apps.AppRow.{AppRow}
use Rattle.hs_tables.specs.declared.events.EventRow.{EventRow}

-- where there is no fault, no entry has a reason
pub no_reason : {E : Type 0} (reason_of : E → Option ℕ) (n : ℕ) (xs : List E) → first_fault reason_of n xs ≡ None → All (λ (e : E). reason_of e ≡ None) xs
unfolding first_fault
no_reason {E} reason_of n [] none = All-nil (λ (e : E). reason_of e ≡ None)
no_reason {E} reason_of n (x ∷ xs) none =
    let parts = both (reason_of x) (first_fault reason_of (n + 1) xs) none in
    All-cons (λ (e : E). reason_of e ≡ None) x xs parts.0 (no_reason reason_of (n + 1) xs parts.1)
  where
    both : (o : Option ℕ) (behind : Option EntryFault) → fault_or n o behind ≡ None → (o ≡ None) × (behind ≡ None)
    both None behind is = (refl, is)
    both (Some reason) behind is = cc

small : (unnamed : Bool) (action : ℕ) → cond {A = Option ℕ} unnamed (Some 1) (cond {A = Option ℕ} (nat_lt 11 action) (Some 2) None) ≡ None → action ≤ 11
small true action none = cc
small false action none = by_test (nat_lt 11 action) refl none
  where
    by_test : (t : Bool) → nat_lt 11 action ≡ t → cond {A = Option ℕ} t (Some 2) None ≡ None → action ≤ 11
    by_test true over is = cc
    by_test false within is = ltb-false 11 action within

app_small : (row : AppRow) → apps.row_reason row ≡ None → row.action ≤ 11
unfolding apps.row_reason
app_small row none = small (apps.is_used row && is_none row.name) row.action none

event_small : (row : EventRow) → events.row_reason row ≡ None → row.action ≤ 11
unfolding events.row_reason
event_small row none = small (events.is_used row && is_none row.name) row.action none

pub apps_listed : (n : ℕ) (rows : List AppRow) → first_fault apps.row_reason n rows ≡ None → apps.AreListed rows
apps_listed n rows none = All-weaker (λ (row : AppRow). apps.row_reason row ≡ None) (λ (row : AppRow). row.action ≤ 11) app_small rows (no_reason apps.row_reason n rows none)

pub events_listed : (n : ℕ) (rows : List EventRow) → first_fault events.row_reason n rows ≡ None → events.AreListed rows
events_listed n rows none = All-weaker (λ (row : EventRow). events.row_reason row ≡ None) (λ (row : EventRow). row.action ≤ 11) event_small rows (no_reason events.row_reason n rows none)

-- what a used entry has
some_number : (n : ℕ) → not (n == 0) ≡ true → 0 < n
some_number n is = by_test (n == 0) refl is
  where
    by_test : (t : Bool) → (n == 0) ≡ t → not t ≡ true → 0 < n
    by_test true zero some = cc
    by_test false other some = let apart : n ≢ 0 = eqb-false n 0 other in omega arith

both_true : (a b : Bool) → (a && b) ≡ true → (a ≡ true) × (b ≡ true)
both_true true b is = (refl, is)
both_true false b is = cc

pub app_able : (cycles action : ℕ) → (not (cycles == 0) && not (action == 0)) ≡ true → (0 < cycles) × (1 ≤ action)
app_able cycles action used =
    let parts = both_true (not (cycles == 0)) (not (action == 0)) used in
    (some_number cycles parts.0, some_number action parts.1)

pub event_able : (action : ℕ) → not (action == 0) ≡ true → 1 ≤ action
event_able action used = some_number action used
