-- Lemmas on events and refusals that are looked for.
use Rattle.std.proofs.Common.{◌≡◌, ℕ, suc, ◌+◌, ◌<◌, ◌≤◌, true, false, List, [], ◌∷◌, ◌++◌, append_assoc, length, drop, get_or, Some, None, refl, ap, ◌∙◌, add-one, drop-cons}
use Rattle.std.specs.Prelude.{if◌then◌else◌, Result, Ok, Err, OnOk}
use Rattle.std.specs.declared.alloc.AllocError.{AllocError}
use Rattle.std.proofs.lemmas.List.{drop_all}
use Rattle.events.specs.declared.event.Event.{Event}
use Rattle.events.specs.declared.refusal.Refusal.{Refusal}
use Rattle.events.specs.Events.{is_event, event_row}
use Rattle.events.specs.Refusals.{is_refusal, reason_row}

-- ---- events

row_cons : (e : Event) (es : List Event) (application : List ℕ) (number kind : ℕ) → event_row (e ∷ es) application number kind ≡ (if is_event application number kind e then Some e else event_row es application number kind)
unfolding event_row
row_cons e es application number kind = refl

row_nil : (application : List ℕ) (number kind : ℕ) → event_row [] application number kind ≡ None
unfolding event_row
row_nil application number kind = refl

row_step : (es : List Event) (i : ℕ) (d : Event) (application : List ℕ) (number kind : ℕ) → i < length es → event_row (drop i es) application number kind ≡ (if is_event application number kind (get_or es i d) then Some (get_or es i d) else event_row (drop (i + 1) es) application number kind)
row_step es i d application number kind h = rw add-one (ap (λ (xs : List Event). event_row xs application number kind) (drop-cons es i d h) ∙ row_cons (get_or es i d) (drop (suc i) es) application number kind)

pub event_found : (es : List Event) (i : ℕ) (d : Event) (application : List ℕ) (number kind : ℕ) → i < length es → true ≡ is_event application number kind (get_or es i d) → event_row (drop i es) application number kind ≡ Some (get_or es i d)
event_found es i d application number kind h t = row_step es i d application number kind h ∙ rw (← t) refl

pub event_passed : (es : List Event) (i : ℕ) (d : Event) (application : List ℕ) (number kind : ℕ) → i < length es → false ≡ is_event application number kind (get_or es i d) → event_row (drop i es) application number kind ≡ event_row (drop (i + 1) es) application number kind
event_passed es i d application number kind h t = row_step es i d application number kind h ∙ rw (← t) refl

pub event_none : (es : List Event) (i : ℕ) (application : List ℕ) (number kind : ℕ) → length es ≤ i → event_row (drop i es) application number kind ≡ None
event_none es i application number kind h = ap (λ (xs : List Event). event_row xs application number kind) (drop_all i es h) ∙ row_nil application number kind

-- ---- refusals

reason_cons : (r : Refusal) (rs : List Refusal) (application : List ℕ) (code number : ℕ) → reason_row (r ∷ rs) application code number ≡ (if is_refusal application code number r then Some r.reason.now else reason_row rs application code number)
unfolding reason_row
reason_cons r rs application code number = refl

reason_nil : (application : List ℕ) (code number : ℕ) → reason_row [] application code number ≡ None
unfolding reason_row
reason_nil application code number = refl

reason_step : (rs : List Refusal) (i : ℕ) (d : Refusal) (application : List ℕ) (code number : ℕ) → i < length rs → reason_row (drop i rs) application code number ≡ (if is_refusal application code number (get_or rs i d) then Some (get_or rs i d).reason.now else reason_row (drop (i + 1) rs) application code number)
reason_step rs i d application code number h = rw add-one (ap (λ (xs : List Refusal). reason_row xs application code number) (drop-cons rs i d h) ∙ reason_cons (get_or rs i d) (drop (suc i) rs) application code number)

pub reason_found : (rs : List Refusal) (i : ℕ) (d : Refusal) (application : List ℕ) (code number : ℕ) → i < length rs → true ≡ is_refusal application code number (get_or rs i d) → reason_row (drop i rs) application code number ≡ Some (get_or rs i d).reason.now
reason_found rs i d application code number h t = reason_step rs i d application code number h ∙ rw (← t) refl

pub reason_passed : (rs : List Refusal) (i : ℕ) (d : Refusal) (application : List ℕ) (code number : ℕ) → i < length rs → false ≡ is_refusal application code number (get_or rs i d) → reason_row (drop i rs) application code number ≡ reason_row (drop (i + 1) rs) application code number
reason_passed rs i d application code number h t = reason_step rs i d application code number h ∙ rw (← t) refl

pub reason_none : (rs : List Refusal) (i : ℕ) (application : List ℕ) (code number : ℕ) → length rs ≤ i → reason_row (drop i rs) application code number ≡ None
reason_none rs i application code number h = ap (λ (xs : List Refusal). reason_row xs application code number) (drop_all i rs h) ∙ reason_nil application code number

-- ---- texts that are put one behind the other

pub twice_put : (r : Result (Unit {0}) AllocError) (old mid new a b c d : List ℕ) → mid ≡ (old ++ a) ++ b → OnOk r (new ≡ (mid ++ c) ++ d) → OnOk r (new ≡ old ++ ((a ++ b) ++ (c ++ d)))
twice_put (Ok done) old mid new a b c d put given = given ∙ ap (λ (xs : List ℕ). (xs ++ c) ++ d) put ∙ simp append_assoc
twice_put (Err e) old mid new a b c d put given = tt
