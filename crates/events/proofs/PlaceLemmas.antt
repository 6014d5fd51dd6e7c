-- Lemmas on events and refusals whose texts lie elsewhere.
use Rattle.std.proofs.Common.{◌≡◌, ℕ, ◌+◌, Bool, true, false, List, [], ◌∷◌, ◌++◌, map, Option, Some, None, refl, ap, ◌∙◌}
use Rattle.std.specs.Prelude.{if◌then◌else◌}
use Rattle.events.specs.declared.event.Event.{Event}
use Rattle.events.specs.declared.refusal.Refusal.{Refusal}
use Rattle.events.specs.Events.{is_event, event_row, sentence_said, event_said}
use Rattle.events.specs.Refusals.{is_refusal, reason_row, reason_of, command_said, refusal_said}
use Rattle.events.specs.Tables.{placed_event, placed_refusal}

abbrev placed_option : Option Event → Option Event
placed_option None = None
placed_option (Some e) = Some (placed_event e)

placed_row : (es : List Event) (application : List ℕ) (number kind : ℕ) → event_row (map placed_event es) application number kind ≡ placed_option (event_row es application number kind)
unfolding event_row
placed_row [] application number kind = refl
placed_row (e ∷ es) application number kind = by (is_event application number kind e) (placed_row es application number kind) where
  by : (b : Bool) → event_row (map placed_event es) application number kind ≡ placed_option (event_row es application number kind) → (if b then Some (placed_event e) else event_row (map placed_event es) application number kind) ≡ placed_option (if b then Some e else event_row es application number kind)
  by true h = refl
  by false h = h

same_sentence : (o : Option Event) (number kind : ℕ) → sentence_said (placed_option o) number kind ≡ sentence_said o number kind
same_sentence None number kind = refl
same_sentence (Some e) number kind = refl

same_command : (o : Option Event) (code : ℕ) → command_said (placed_option o) code ≡ command_said o code
same_command None code = refl
same_command (Some e) code = refl

pub placed_sentence : (es : List Event) (application : List ℕ) (number kind : ℕ) → event_said (map placed_event es) application number kind ≡ event_said es application number kind
unfolding event_said
placed_sentence es application number kind = ap (λ (xs : List ℕ). application ++ xs) (ap (λ (o : Option Event). sentence_said o number kind) (placed_row es application number kind) ∙ same_sentence (event_row es application number kind) number kind)

placed_reason : (rs : List Refusal) (application : List ℕ) (code number : ℕ) → reason_row (map placed_refusal rs) application code number ≡ reason_row rs application code number
unfolding reason_row
placed_reason [] application code number = refl
placed_reason (r ∷ rs) application code number = ap (λ (o : Option (List ℕ)). if is_refusal application code number r then Some r.reason.now else o) (placed_reason rs application code number)

placed_reason_of : (rs : List Refusal) (application : List ℕ) (code number : ℕ) → reason_of (map placed_refusal rs) application code number ≡ reason_of rs application code number
unfolding reason_of
placed_reason_of rs application code number = rw (placed_reason rs application code number) refl

pub placed_refused : (es : List Event) (rs : List Refusal) (application : List ℕ) (code number : ℕ) → refusal_said (map placed_event es) (map placed_refusal rs) application code number ≡ refusal_said es rs application code number
unfolding refusal_said
placed_refused es rs application code number =
    rw (placed_row es application (16 + code) 2, same_command (event_row es application (16 + code) 2) code, placed_reason_of rs application code number) refl
