-- Tables, attempts and packets of the worked rows.
use Rattle.std.specs.Prelude.{ℕ, List, [], ◌∷◌, replicate, slice_set, Some}
use Rattle.hs_tables.specs.Actions.{blank_row}
use Rattle.hs_tables.specs.declared.actions.ActRow.{ActRow}
use Rattle.hs_actions.specs.Happenings.{Happening, attempt_by}
use Rattle.hs_actions.specs.Happenings.Happening.{Attempts}
use Rattle.hs_actions.specs.Outcomes.{Past}
use Rattle.hs_actions.specs.declared.action.Source.TheVariants.{AppMonitor, EventMonitor}

-- the name LOAD, in 20 bytes
abbrev pub load_bytes : List ℕ
load_bytes = 0x4C ∷ 0x4F ∷ 0x41 ∷ 0x44 ∷ 0 ∷ 0 ∷ 0 ∷ 0 ∷ 0 ∷ 0 ∷ 0 ∷ 0 ∷ 0 ∷ 0 ∷ 0 ∷ 0 ∷ 0 ∷ 0 ∷ 0 ∷ 0 ∷ []

-- the no-op of MM
abbrev pub noop_bytes : List ℕ
noop_bytes = 0x18 ∷ 0x88 ∷ 0xC0 ∷ 0 ∷ 0 ∷ 1 ∷ 0 ∷ 0xAE ∷ []

-- an event of Health and Safety of type 3, its id and the last byte of its time below 256
abbrev pub hs_event : ℕ → ℕ → List ℕ
hs_event id late =
    8 ∷ 8 ∷ 0xC0 ∷ 0 ∷ 0 ∷ 0x25 ∷ 0 ∷ 0 ∷ 3 ∷ late ∷ 0 ∷ 0
    ∷ 0x48 ∷ 0x53 ∷ 0 ∷ 0 ∷ 0 ∷ 0 ∷ 0 ∷ 0 ∷ 0 ∷ 0 ∷ 0 ∷ 0 ∷ 0 ∷ 0 ∷ 0 ∷ 0 ∷ 0 ∷ 0 ∷ 0 ∷ 0
    ∷ 0 ∷ id ∷ 0 ∷ 3 ∷ 0 ∷ 0 ∷ 0 ∷ 0x42 ∷ 0 ∷ 0 ∷ 0 ∷ 1 ∷ []

-- a table whose first entry has this state, the cooldown 2 and the no-op of MM
abbrev pub one_act : ℕ → List ActRow
one_act state = (record { state = state; cooldown = 2; packet = Some noop_bytes }) ∷ replicate 7 blank_row

-- two attempts of message action 0 by event monitors in wakeup k
abbrev pub twice : ℕ → List Happening
twice k = Attempts (attempt_by EventMonitor load_bytes 4 k) ∷ Attempts (attempt_by EventMonitor load_bytes 4 k) ∷ []

-- an attempt of a reset by an application monitor in wakeup 0
abbrev pub reset_once : Happening
reset_once = Attempts (attempt_by AppMonitor load_bytes 1 0)

-- so many wakeups have begun, and this happened since no reset was made of at most three
abbrev pub past_after : ℕ → List Happening → Past
past_after wakeups happened = record { begins = record { made = 0; max = 3 }; wakeups = wakeups; happened = happened }

-- a table in which one entry alone is used, in this place: state 1, this cooldown, and the no-op of MM
abbrev pub act_in : ℕ → ℕ → List ActRow
act_in place cooldown = slice_set (replicate 8 blank_row) place (record { state = 1; cooldown = cooldown; packet = Some noop_bytes })

-- an attempt of the action of this number by an event monitor in wakeup k
abbrev pub heard_once : ℕ → ℕ → Happening
heard_once number k = Attempts (attempt_by EventMonitor load_bytes number k)

-- so many wakeups have begun, this happened, and so many resets were made before of at most so many
abbrev pub past_with : ℕ → ℕ → List Happening → Past
past_with made max happened = record { begins = record { made = made; max = max }; wakeups = 1; happened = happened }

-- an event of Health and Safety at the time 0x01020304: its id below 256, and its type
abbrev pub late_event : ℕ → ℕ → List ℕ
late_event id kind =
    8 ∷ 8 ∷ 0xC0 ∷ 0 ∷ 0 ∷ 0x25 ∷ 1 ∷ 2 ∷ 3 ∷ 4 ∷ 0 ∷ 0
    ∷ 0x48 ∷ 0x53 ∷ 0 ∷ 0 ∷ 0 ∷ 0 ∷ 0 ∷ 0 ∷ 0 ∷ 0 ∷ 0 ∷ 0 ∷ 0 ∷ 0 ∷ 0 ∷ 0 ∷ 0 ∷ 0 ∷ 0 ∷ 0
    ∷ 0 ∷ id ∷ 0 ∷ kind ∷ 0 ∷ 0 ∷ 0 ∷ 0x42 ∷ 0 ∷ 0 ∷ 0 ∷ 1 ∷ []
