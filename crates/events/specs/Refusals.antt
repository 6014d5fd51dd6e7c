-- Refusals: why an application's command of a code is refused, by the number of the refusal.
use Rattle.std.specs.Prelude.{ℕ, ◌+◌, ◌==◌, Bool, true, ◌&&◌, not, if◌then◌else◌, List, [], ◌∷◌, ◌++◌, codes, decimal, Option, Some, None}
use Rattle.std.proofs.Common.{Bor}
use Rattle.std.specs.List.{list_all}
use Rattle.std.specs.Str.{bytes_eq}
use Rattle.events.specs.declared.event.Event.{Event}
use Rattle.events.specs.declared.refusal.Refusal.{Refusal}
use Rattle.events.specs.Events.{event_row}

abbrev pub is_refusal : List ℕ → ℕ → ℕ → Refusal → Bool
is_refusal application code number r = (r.number == number) && (r.code == code) && bytes_eq r.application.now application

-- the reason that stands in a table
unfoldable pub reason_row : List Refusal → List ℕ → ℕ → ℕ → Option (List ℕ)
reason_row [] application code number = None
reason_row (r ∷ rs) application code number = if is_refusal application code number r then Some r.reason.now else reason_row rs application code number

-- why a command is refused: 1 to 3 every command may meet
unfoldable pub reason_of : List Refusal → List ℕ → ℕ → ℕ → Option (List ℕ)
reason_of rs application code number =
    if number == 1 then Some (codes "its checksum is wrong")
    else if number == 2 then Some (codes "there is no such code")
    else if number == 3 then Some (codes "its payload has another length")
    else reason_row rs application code number

-- a text that may be missing, as a list of bytes
abbrev pub text_of : Option (Bor (List ℕ)) → Option (List ℕ)
text_of None = None
text_of (Some text) = Some text.now

abbrev pub command_said : Option Event → ℕ → List ℕ
command_said (Some e) code = codes ": command " ++ e.name.now
command_said None code = codes ": command of code " ++ decimal code

abbrev pub reason_said : Option (List ℕ) → ℕ → List ℕ
reason_said (Some text) number = codes " was refused: " ++ text
reason_said None number = codes " was refused: unknown reason " ++ decimal number

-- that a command was refused, and why: the application's name, the command's name and the reason
unfoldable pub refusal_said : List Event → List Refusal → List ℕ → ℕ → ℕ → List ℕ
refusal_said es rs application code number =
    application ++ command_said (event_row es application (16 + code) 2) code ++ reason_said (reason_of rs application code number) number

-- no two refusals of a command have one number
unfoldable pub are_refusals_distinct : List Refusal → Bool
are_refusals_distinct [] = true
are_refusals_distinct (r ∷ rs) = list_all (λ s. not (is_refusal r.application.now r.code r.number s)) rs && are_refusals_distinct rs
