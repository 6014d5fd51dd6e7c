-- Tables, wakeups and packets of the worked rows.
use Rattle.std.specs.Prelude.{ℕ, ◌+◌, List, [], ◌∷◌, ◌++◌, replicate, slice_set, Some}
use Rattle.histories.specs.Entries.Entry.{Woken}
use Rattle.packet_forms.specs.declared.name.Counter.{Counter}
use Rattle.hs_tables.specs.Apps as apps
use Rattle.hs_tables.specs.Events as events
use Rattle.hs_tables.specs.Counters as counters
use Rattle.hs_tables.specs.Actions as actions
use Rattle.hs_tables.specs.declared.apps.AppRow.{AppRow}
use Rattle.hs_tables.specs.declared.events.EventRow.{EventRow}
use Rattle.hs_tables.specs.declared.actions.ActRow.{ActRow}
use Rattle.hs_actions.specs.Rows.{load_bytes, noop_bytes, one_act}
use Rattle.hs_monitors.specs.Histories.{Input, HsEntry, Setup}

-- the name CAM, in 20 bytes
abbrev pub cam_bytes : List ℕ
cam_bytes = 0x43 ∷ 0x41 ∷ 0x4D ∷ 0 ∷ 0 ∷ 0 ∷ 0 ∷ 0 ∷ 0 ∷ 0 ∷ 0 ∷ 0 ∷ 0 ∷ 0 ∷ 0 ∷ 0 ∷ 0 ∷ 0 ∷ 0 ∷ 0 ∷ []

-- an event of Health and Safety of type 2, its id and the last byte of its time below 256
abbrev pub hs_info : ℕ → ℕ → List ℕ
hs_info id late =
    8 ∷ 8 ∷ 0xC0 ∷ 0 ∷ 0 ∷ 0x25 ∷ 0 ∷ 0 ∷ 3 ∷ late ∷ 0 ∷ 0
    ∷ 0x48 ∷ 0x53 ∷ 0 ∷ 0 ∷ 0 ∷ 0 ∷ 0 ∷ 0 ∷ 0 ∷ 0 ∷ 0 ∷ 0 ∷ 0 ∷ 0 ∷ 0 ∷ 0 ∷ 0 ∷ 0 ∷ 0 ∷ 0
    ∷ 0 ∷ id ∷ 0 ∷ 2 ∷ 0 ∷ 0 ∷ 0 ∷ 0x42 ∷ 0 ∷ 0 ∷ 0 ∷ 1 ∷ []

-- an event message of LOAD with this id
abbrev pub load_event : ℕ → List ℕ
load_event id =
    8 ∷ 8 ∷ 0xC0 ∷ 0 ∷ 0 ∷ 0x25 ∷ 0 ∷ 0 ∷ 3 ∷ 0xE8 ∷ 0 ∷ 0
    ∷ 0x4C ∷ 0x4F ∷ 0x41 ∷ 0x44 ∷ 0 ∷ 0 ∷ 0 ∷ 0 ∷ 0 ∷ 0 ∷ 0 ∷ 0 ∷ 0 ∷ 0 ∷ 0 ∷ 0 ∷ 0 ∷ 0 ∷ 0 ∷ 0
    ∷ 0 ∷ id ∷ 0 ∷ 2 ∷ 0 ∷ 0 ∷ 0 ∷ 0x42 ∷ 0 ∷ 0 ∷ 0 ∷ 1 ∷ []

-- the commands that switch application monitoring on and off
abbrev pub enable : List ℕ
enable = 0x18 ∷ 0xAE ∷ 0xC0 ∷ 0 ∷ 0 ∷ 1 ∷ 2 ∷ 0x8A ∷ []

abbrev pub disable : List ℕ
disable = 0x18 ∷ 0xAE ∷ 0xC0 ∷ 0 ∷ 0 ∷ 1 ∷ 3 ∷ 0x8B ∷ []

-- the command that switches event monitoring off
abbrev pub deafen : List ℕ
deafen = 0x18 ∷ 0xAE ∷ 0xC0 ∷ 0 ∷ 0 ∷ 1 ∷ 5 ∷ 0x8D ∷ []

-- the commands that set the resets made to 0, and the maximum of resets to 0
abbrev pub clear : List ℕ
clear = 0x18 ∷ 0xAE ∷ 0xC0 ∷ 0 ∷ 0 ∷ 1 ∷ 8 ∷ 0x80 ∷ []

abbrev pub limit_none : List ℕ
limit_none = 0x18 ∷ 0xAE ∷ 0xC0 ∷ 0 ∷ 0 ∷ 3 ∷ 9 ∷ 0x83 ∷ 0 ∷ 0 ∷ []

-- the request for housekeeping
abbrev pub request : List ℕ
request = 0x18 ∷ 0xAF ∷ 0xC0 ∷ 0 ∷ 0 ∷ 1 ∷ 0 ∷ 0x89 ∷ []

-- an application monitor on LOAD, alone or several times
abbrev pub load_row : ℕ → ℕ → AppRow
load_row cycles action = record { name = Some load_bytes; cycles = cycles; action = action }

abbrev pub load_rows : ℕ → ℕ → ℕ → ℕ → List AppRow
load_rows used unused cycles action = replicate used (load_row cycles action) ++ replicate unused apps.blank_row

-- event monitors of LOAD's event 7
abbrev pub seven_rows : ℕ → ℕ → ℕ → List EventRow
seven_rows used unused action = replicate used (record { name = Some load_bytes; id = 7; action = action }) ++ replicate unused events.blank_row

-- what is set up with these tables, and so many resets made of at most three
abbrev pub setup_with : List AppRow → List EventRow → List ActRow → ℕ → Setup
setup_with app_rows event_rows act_rows made = record {
  tables = record { apps = app_rows; events = event_rows; counts = replicate 32 counters.blank_row; acts = act_rows };
  made = made;
  max = 3;
}

-- one application monitor on LOAD
abbrev pub watching : ℕ → ℕ → Setup
watching cycles action = setup_with (load_rows 1 31 cycles action) (seven_rows 0 16 0) (replicate 8 actions.blank_row) 0

-- two event monitors of LOAD's event 7, with message action 0
abbrev pub listening : Setup
listening = setup_with (load_rows 0 32 0 0) (seven_rows 2 14 4) (one_act 1) 0

-- a wakeup at second n: with these commands, event packets and counters
abbrev pub wakeup : ℕ → List (List ℕ) → List (List ℕ) → List Counter → Input
wakeup n commands packets counters = record { time = 1000 + n; commands = commands; seen = record { events = packets; counters = counters } }

-- LOAD's counter
abbrev pub load_at : ℕ → Counter
load_at value = record { name = load_bytes; value = value }

-- a wakeup with LOAD's counter alone, and several from second n on
abbrev pub counted : ℕ → ℕ → Input
counted n value = wakeup n [] [] (load_at value ∷ [])

abbrev pub saw : ℕ → List ℕ → List HsEntry
saw n [] = []
saw n (value ∷ values) = Woken (counted n value) ∷ saw (n + 1) values

-- a wakeup with LOAD's event 7 alone
abbrev pub heard : ℕ → Input
heard n = wakeup n [] (load_event 7 ∷ []) []

-- a request whose checksum is wrong, and one with a payload of two bytes
abbrev pub wrong_request : List ℕ
wrong_request = 0x18 ∷ 0xAF ∷ 0xC0 ∷ 0 ∷ 0 ∷ 1 ∷ 0 ∷ 0x88 ∷ []

abbrev pub long_request : List ℕ
long_request = 0x18 ∷ 0xAF ∷ 0xC0 ∷ 0 ∷ 0 ∷ 3 ∷ 0 ∷ 0x88 ∷ 1 ∷ 2 ∷ []

-- the command that resets both counts
abbrev pub reset_counts : List ℕ
reset_counts = 0x18 ∷ 0xAE ∷ 0xC0 ∷ 0 ∷ 0 ∷ 1 ∷ 1 ∷ 0x89 ∷ []

-- a name of 19 bytes, and its event message 0x0107
abbrev pub longest_bytes : List ℕ
longest_bytes = 0x41 ∷ 0x42 ∷ 0x43 ∷ 0x44 ∷ 0x45 ∷ 0x46 ∷ 0x47 ∷ 0x48 ∷ 0x49 ∷ 0x4A ∷ 0x4B ∷ 0x4C ∷ 0x4D ∷ 0x4E ∷ 0x4F ∷ 0x50 ∷ 0x51 ∷ 0x52 ∷ 0x53 ∷ 0 ∷ []

abbrev pub longest_event : List ℕ
longest_event =
    8 ∷ 8 ∷ 0xC0 ∷ 0 ∷ 0 ∷ 0x25 ∷ 0 ∷ 0 ∷ 3 ∷ 0xE8 ∷ 0 ∷ 0
    ∷ 0x41 ∷ 0x42 ∷ 0x43 ∷ 0x44 ∷ 0x45 ∷ 0x46 ∷ 0x47 ∷ 0x48 ∷ 0x49 ∷ 0x4A ∷ 0x4B ∷ 0x4C ∷ 0x4D ∷ 0x4E ∷ 0x4F ∷ 0x50 ∷ 0x51 ∷ 0x52 ∷ 0x53 ∷ 0
    ∷ 1 ∷ 7 ∷ 0 ∷ 2 ∷ 0 ∷ 0 ∷ 0 ∷ 0x42 ∷ 0 ∷ 0 ∷ 0 ∷ 1 ∷ []

-- an application monitor on CAM, in the last place, behind one on LOAD in the first
abbrev pub ends_watched : Setup
ends_watched =
    setup_with (load_row 1 3 ∷ replicate 30 apps.blank_row ++ (record { name = Some cam_bytes; cycles = 2; action = 2 }) ∷ []) (seven_rows 0 16 0) (replicate 8 actions.blank_row) 0

-- an event monitor of LOAD's event 7 in the last place alone, with this action, and all message actions unused but the last
abbrev pub last_heard : ℕ → Setup
last_heard action =
    setup_with (load_rows 0 32 0 0) (slice_set (seven_rows 0 16 0) 15 (record { name = Some load_bytes; id = 7; action = action }))
    (slice_set (replicate 8 actions.blank_row) 7 (record { state = 1; cooldown = 2; packet = Some noop_bytes })) 0

-- housekeeping at second n below 24 behind 1,000: both counts, whether both monitorings are on, message actions sent below 256, the
-- watching monitors 1 to 8, and no counter
abbrev pub shown : ℕ → ℕ → ℕ → ℕ → ℕ → ℕ → ℕ → List ℕ
shown n accepted errors monitoring listening sent watching =
    (8 ∷ 0xAD ∷ 0xC0 ∷ 0 ∷ 0 ∷ 0x95 ∷ 0 ∷ 0 ∷ 3 ∷ (0xE8 + n) ∷ 0 ∷ 0
    ∷ accepted ∷ errors ∷ monitoring ∷ listening ∷ 0 ∷ 0 ∷ 0 ∷ 3 ∷ 0 ∷ sent ∷ 0 ∷ 0 ∷ 0 ∷ 0 ∷ 0 ∷ watching ∷ []) ++ replicate 128 0xFF
