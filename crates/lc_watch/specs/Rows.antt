-- Tables, packets and wakeups of the worked rows.
use Rattle.std.specs.Prelude.{ℕ, ◌+◌, List, [], ◌∷◌, ◌++◌, replicate, Some}
use Rattle.histories.specs.Words.{along}
use Rattle.bus_pipes.specs.declared.names.Out.{Out}
use Rattle.bus_pipes.specs.declared.names.Out.TheVariants.{Made, Stored}
use Rattle.lc_watch.specs.Watchpoints as watchpoints
use Rattle.lc_watch.specs.Actionpoints as actionpoints
use Rattle.lc_watch.specs.Histories.{Input, Setup}
use Rattle.lc_watch.specs.Step.{lc_items}
use Rattle.lc_watch.specs.declared.watchpoints.Operator.{Operator}
use Rattle.lc_watch.specs.declared.watchpoints.Operator.TheVariants.{Greater}
use Rattle.lc_watch.specs.declared.watchpoints.WatchRow.{WatchRow}
use Rattle.lc_watch.specs.declared.expressions.Word.TheVariants.{Watch, Unknown}
use Rattle.lc_watch.specs.declared.actionpoints.ActRow.{ActRow}

-- A packet of a peek, with this value in byte 20.
abbrev pub peek : ℕ → List ℕ
peek value = 0x08 ∷ 0x8A ∷ 0xC0 ∷ 0 ∷ 0 ∷ 0x0E ∷ 0 ∷ 0 ∷ 3 ∷ 0xE9 ∷ 0 ∷ 0 ∷ 8 ∷ 0 ∷ 0 ∷ 0x10 ∷ 0x10 ∷ 0 ∷ 0 ∷ 0 ∷ value ∷ []

-- A packet of another id.
abbrev pub dwell : List ℕ
dwell = 0x08 ∷ 0x91 ∷ 0xC0 ∷ 0 ∷ 0 ∷ 7 ∷ 0 ∷ 0 ∷ 3 ∷ 0xE9 ∷ 0 ∷ 0 ∷ 0xF1 ∷ 0xF2 ∷ []

-- A watchpoint on the packets of a peek.
abbrev pub watch_row : ℕ → ℕ → Operator → ℕ → ℕ → WatchRow
watch_row kind offset operator mask limit = record { kind = kind; id = 0x088A; offset = offset; operator = Some operator; mask = mask; limit = limit }

-- Watchpoint 1: the value is over 5.
abbrev pub over_five : List WatchRow
over_five = watch_row 1 20 Greater 0xFFFFFFFF 5 ∷ replicate 31 watchpoints.blank_row

-- Actionpoint 1 on it alone, which starts sequence 2.
abbrev pub first_act : ℕ → ℕ → List ActRow
first_act state failures = record { state = state; rts = 2; failures = failures; size = 1; words = Watch 0 ∷ replicate 15 Unknown } ∷ replicate 15 actionpoints.blank_row

abbrev pub first_alone : ℕ → ℕ → Setup
first_alone state failures = record { watch = over_five; actions = first_act state failures }

-- Wakeups by their number below 256, with these commands and this telemetry.
abbrev pub woken : ℕ → List (List ℕ) → List (List ℕ) → Input
woken late commands telemetry = record { time = 1000 + late; commands = commands; seen = telemetry }

abbrev pub quiet : ℕ → Input
quiet late = woken late [] []

-- The commands that set actionpoint 1 active and passive, and the request for housekeeping.
abbrev pub set_active : List ℕ
set_active = 0x18 ∷ 0xA6 ∷ 0xC0 ∷ 0 ∷ 0 ∷ 3 ∷ 2 ∷ 0x81 ∷ 0 ∷ 1 ∷ []

abbrev pub set_passive : List ℕ
set_passive = 0x18 ∷ 0xA6 ∷ 0xC0 ∷ 0 ∷ 0 ∷ 3 ∷ 3 ∷ 0x80 ∷ 0 ∷ 1 ∷ []

abbrev pub request : List ℕ
request = 0x18 ∷ 0xA7 ∷ 0xC0 ∷ 0 ∷ 0 ∷ 1 ∷ 0 ∷ 0x81 ∷ []

-- An event of LC: its id, its type, and the last byte of its time.
abbrev pub lc_event : ℕ → ℕ → ℕ → List ℕ
lc_event id kind late =
    8 ∷ 8 ∷ 0xC0 ∷ 0 ∷ 0 ∷ 0x25 ∷ 0 ∷ 0 ∷ 3 ∷ late ∷ 0 ∷ 0
    ∷ 0x4C ∷ 0x43 ∷ 0 ∷ 0 ∷ 0 ∷ 0 ∷ 0 ∷ 0 ∷ 0 ∷ 0 ∷ 0 ∷ 0 ∷ 0 ∷ 0 ∷ 0 ∷ 0 ∷ 0 ∷ 0 ∷ 0 ∷ 0
    ∷ 0 ∷ id ∷ 0 ∷ kind ∷ 0 ∷ 0 ∷ 0 ∷ 0x42 ∷ 0 ∷ 0 ∷ 0 ∷ 1 ∷ []

-- What a firing of actionpoint 1 gives.
abbrev pub fired_first : ℕ → List Out
fired_first late = Stored (0x18 ∷ 0xA9 ∷ 0xC0 ∷ 0 ∷ 0 ∷ 3 ∷ 4 ∷ 0x8B ∷ 0 ∷ 2 ∷ []) ∷ Made (lc_event 101 3 late) ∷ []

-- Housekeeping with these counts, active actionpoints, firings and results below 256.
abbrev pub shown : ℕ → ℕ → ℕ → ℕ → ℕ → List ℕ
shown late accepted active fired results =
    8 ∷ 0xA7 ∷ 0xC0 ∷ 0 ∷ 0 ∷ 0x15 ∷ 0 ∷ 0 ∷ 3 ∷ late ∷ 0 ∷ 0 ∷ accepted ∷ 0 ∷ 0 ∷ 0 ∷ 0 ∷ active ∷ 0 ∷ fired ∷ 0 ∷ 0 ∷ 0 ∷ 0 ∷ 0 ∷ 0 ∷ 0 ∷ results ∷ []

-- What is sent in each wakeup of a history.
abbrev pub sent_along : Setup → List Input → List (List Out)
sent_along setup inputs = along (lc_items setup) inputs

-- A packet of a peek's id with 256 bytes, the last of which is 0xF7, and one with the value 0x89ABCDEF from byte 12 on.
abbrev pub longest : List ℕ
longest = (8 ∷ 0x8A ∷ 0xC0 ∷ 0 ∷ 0 ∷ 0xF9 ∷ []) ++ replicate 249 0 ++ 0xF7 ∷ []

abbrev pub four_bytes : List ℕ
four_bytes = 8 ∷ 0x8A ∷ 0xC0 ∷ 0 ∷ 0 ∷ 9 ∷ 1 ∷ 2 ∷ 3 ∷ 4 ∷ 0 ∷ 0 ∷ 0x89 ∷ 0xAB ∷ 0xCD ∷ 0xEF ∷ []

-- A command for the actionpoint of this number, by its code and check.
abbrev pub numbered : ℕ → ℕ → ℕ → ℕ → List ℕ
numbered code check high low = 0x18 ∷ 0xA6 ∷ 0xC0 ∷ 0 ∷ 0 ∷ 3 ∷ code ∷ check ∷ high ∷ low ∷ []

-- Actionpoints of which the first and the last are used, on the last watchpoint, and start the sequences 1 and 64.
abbrev pub both_ends : List ActRow
both_ends =
    (record { state = 1; rts = 1; failures = 1; size = 1; words = Watch 31 ∷ replicate 15 Unknown }) ∷ replicate 14 actionpoints.blank_row
    ++ (record { state = 1; rts = 64; failures = 1; size = 1; words = Watch 31 ∷ replicate 15 Unknown }) ∷ []

-- These actionpoints, and a last watchpoint that asks whether a peek's value is over 5.
abbrev pub ends_watched : Setup
ends_watched = record { watch = replicate 31 watchpoints.blank_row ++ watch_row 1 20 Greater 0xFFFFFFFF 5 ∷ []; actions = both_ends }

-- The event of a firing at the time 0x01020304.
abbrev pub late_event : List ℕ
late_event =
    8 ∷ 8 ∷ 0xC0 ∷ 0 ∷ 0 ∷ 0x25 ∷ 1 ∷ 2 ∷ 3 ∷ 4 ∷ 0 ∷ 0
    ∷ 0x4C ∷ 0x43 ∷ 0 ∷ 0 ∷ 0 ∷ 0 ∷ 0 ∷ 0 ∷ 0 ∷ 0 ∷ 0 ∷ 0 ∷ 0 ∷ 0 ∷ 0 ∷ 0 ∷ 0 ∷ 0 ∷ 0 ∷ 0
    ∷ 0 ∷ 0x65 ∷ 0 ∷ 3 ∷ 0 ∷ 0 ∷ 0 ∷ 0x42 ∷ 0 ∷ 0 ∷ 0 ∷ 1 ∷ []
