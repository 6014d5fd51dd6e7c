-- What lists of calls leave of a crowd.
use Rattle.std.specs.Prelude.{◌≡◌, ℕ, Bool, false, not, List, [], ◌∷◌, map, filter, bytes_eq}
use Rattle.std.specs.List.{list_any}
use Rattle.subjects.specs.Plans.{Plan, Simulated}
use Rattle.subjects.specs.Crowds.{all_cycled, with_restarted, without, all_restarted}

-- A call of a crowd.
pub data Call : Type 0 where
  Cycle : Call
  Restart : List ℕ → Call
  Delete : List ℕ → Call
  RestartAll : Call

-- The subjects after a call, and after a list of calls, the first one first.
abbrev pub after_call : List Simulated → Call → List Simulated
after_call subjects Cycle = all_cycled subjects
after_call subjects (Restart name) = with_restarted name subjects
after_call subjects (Delete name) = without name subjects
after_call subjects RestartAll = all_restarted subjects

abbrev pub after_calls : List Simulated → List Call → List Simulated
after_calls subjects [] = subjects
after_calls subjects (call ∷ calls) = after_calls (after_call subjects call) calls

-- Whether a call, and whether one of a list of calls, deletes this name.
abbrev pub deletes : List ℕ → Call → Bool
deletes name Cycle = false
deletes name (Restart other) = false
deletes name (Delete other) = bytes_eq name other
deletes name RestartAll = false

abbrev pub is_deleted : List Call → List ℕ → Bool
is_deleted calls name = list_any (deletes name) calls

-- What no call changes of a subject: its name and its plan.
abbrev pub lasting : Simulated → List ℕ × Plan
lasting s = (s.name, s.plan)

-- Whatever is called, those whose name was deleted are gone for good, and the others are there in their order.
abbrev pub LeaveForGood : Type 0
LeaveForGood =
    (subjects : List Simulated) (calls : List Call) → map lasting (after_calls subjects calls) ≡ filter (λ s. not (is_deleted calls s.0)) (map lasting subjects)
