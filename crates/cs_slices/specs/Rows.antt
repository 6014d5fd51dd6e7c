-- Tables, wakeups and packets of the worked rows.
use Rattle.std.specs.Prelude.{ℕ, ◌+◌, false, List, [], ◌∷◌, ◌++◌, map, replicate}
use Rattle.histories.specs.Words.{along}
use Rattle.histories.specs.Entries.Entry.{Woken, Activated}
use Rattle.bus_pipes.specs.declared.names.Out.{Out}
use Rattle.bus_pipes.specs.declared.names.Out.TheVariants.{Made}
use Rattle.memory_window.specs.declared.regions.Kind.TheVariants.{Ram}
use Rattle.cs_slices.specs.Tables.{TablePair, pair_of, blank_segment}
use Rattle.cs_slices.specs.Wakeups.{Input}
use Rattle.cs_slices.specs.Happenings.{slices_among}
use Rattle.cs_slices.specs.Histories.{CsEntry, activation_of, happened_of}
use Rattle.cs_slices.specs.Step.{cs_items}
use Rattle.cs_slices.specs.declared.segments.Segment.{Segment}

-- A table whose first entry is enabled and has the three bytes from 0x1000 on.
abbrev pub three_bytes : List Segment
three_bytes = (record { state = 1; start = 0x1000; len = 3 }) ∷ replicate 15 blank_segment

-- Two tables, of which the second is the one with those three bytes.
abbrev pub second_table : TablePair
second_table = pair_of (replicate 16 blank_segment) three_bytes

-- A wakeup at second n with these packets, with three bytes of RAM, the second of which is this one.
abbrev pub wakeup : ℕ → List (List ℕ) → ℕ → Input
wakeup n commands byte = record { time = 1000 + n; commands = commands; seen = record { areas = (record { region = record { kind = Ram; start = 0x1000; len = 4 }; bytes = 1 ∷ byte ∷ 3 ∷ 0 ∷ [] }) ∷ []; guarded = false ∷ [] } }

-- A table whose first entry has these three bytes and this state.
abbrev pub three_with : ℕ → List Segment
three_with state = (record { state = state; start = 0x1000; len = 3 }) ∷ replicate 15 blank_segment

-- A table whose first entry is enabled and has 2,500 bytes, of which the images have none.
abbrev pub long_entry : List Segment
long_entry = (record { state = 1; start = 0x8000; len = 2500 }) ∷ replicate 15 blank_segment

-- An entry of a history: wakeup n with these packets, where the second byte is this one, or the activation of a table.
abbrev pub woken : ℕ → List (List ℕ) → ℕ → CsEntry
woken n commands byte = Woken (wakeup n commands byte)

abbrev pub active : ℕ → List Segment → CsEntry
active n table = Activated (activation_of n table)

-- Wakeups in seconds 0 to 5 without packets.
abbrev pub at : ℕ → CsEntry
at n = woken n [] 2

-- The commands that switch entry 1 of table 2 off and on, table 2 off, and CS off; and the request for housekeeping.
abbrev pub entry_off : List ℕ
entry_off = 0x18 ∷ 0x9F ∷ 0xC0 ∷ 0 ∷ 0 ∷ 5 ∷ 7 ∷ 0xB9 ∷ 0 ∷ 2 ∷ 0 ∷ 1 ∷ []

abbrev pub entry_on : List ℕ
entry_on = 0x18 ∷ 0x9F ∷ 0xC0 ∷ 0 ∷ 0 ∷ 5 ∷ 6 ∷ 0xB8 ∷ 0 ∷ 2 ∷ 0 ∷ 1 ∷ []

abbrev pub table_off : List ℕ
table_off = 0x18 ∷ 0x9F ∷ 0xC0 ∷ 0 ∷ 0 ∷ 3 ∷ 5 ∷ 0xBC ∷ 0 ∷ 2 ∷ []

abbrev pub whole_off : List ℕ
whole_off = 0x18 ∷ 0x9F ∷ 0xC0 ∷ 0 ∷ 0 ∷ 1 ∷ 3 ∷ 0xBA ∷ []

abbrev pub request : List ℕ
request = 0x18 ∷ 0xA0 ∷ 0xC0 ∷ 0 ∷ 0 ∷ 1 ∷ 0 ∷ 0x86 ∷ []

-- An event of CS, its id, its type, and the last byte of its time below 256.
abbrev pub cs_event : ℕ → ℕ → ℕ → Out
cs_event id kind late =
    Made (8 ∷ 8 ∷ 0xC0 ∷ 0 ∷ 0 ∷ 0x25 ∷ 0 ∷ 0 ∷ 3 ∷ late ∷ 0 ∷ 0
    ∷ 0x43 ∷ 0x53 ∷ 0 ∷ 0 ∷ 0 ∷ 0 ∷ 0 ∷ 0 ∷ 0 ∷ 0 ∷ 0 ∷ 0 ∷ 0 ∷ 0 ∷ 0 ∷ 0 ∷ 0 ∷ 0 ∷ 0 ∷ 0
    ∷ 0 ∷ id ∷ 0 ∷ kind ∷ 0 ∷ 0 ∷ 0 ∷ 0x42 ∷ 0 ∷ 0 ∷ 0 ∷ 1 ∷ [])

-- The housekeeping where no command was accepted or refused and all is on: the miscompares of the memory table, and the whole passes.
abbrev pub shown : ℕ → ℕ → ℕ → Out
shown late miscompares passes = Made (8 ∷ 0xA4 ∷ 0xC0 ∷ 0 ∷ 0 ∷ 0x11 ∷ 0 ∷ 0 ∷ 3 ∷ late ∷ 0 ∷ 0 ∷ 0 ∷ 0 ∷ 7 ∷ 0 ∷ 0 ∷ 0 ∷ 0 ∷ miscompares ∷ 0 ∷ 0 ∷ 0 ∷ passes ∷ [])

-- What is sent in each entry of a history.
abbrev pub sent_in : TablePair → List CsEntry → CsEntry → List Out
sent_in tables earlier (Woken input) = cs_items tables earlier input
sent_in tables earlier (Activated a) = []

unfoldable pub sent_along : TablePair → List CsEntry → List (List Out)
sent_along tables entries = along (sent_in tables) entries

-- The offsets in their entries at which the slices of a history begin.
abbrev pub begins_of : TablePair → List CsEntry → List ℕ
begins_of tables entries = map (λ s. s.from) (slices_among (happened_of tables entries))

-- A command for a table by its code, check and number, and one for an entry of it by code, check and payload.
abbrev pub for_table : ℕ → ℕ → ℕ → ℕ → List ℕ
for_table code check high low = 0x18 ∷ 0x9F ∷ 0xC0 ∷ 0 ∷ 0 ∷ 3 ∷ code ∷ check ∷ high ∷ low ∷ []

abbrev pub for_entry : ℕ → ℕ → List ℕ → List ℕ
for_entry code check payload = 0x18 ∷ 0x9F ∷ 0xC0 ∷ 0 ∷ 0 ∷ 5 ∷ code ∷ check ∷ payload

-- A table whose first and last entries are enabled and have a byte each.
abbrev pub both_ends : List Segment
both_ends = (record { state = 1; start = 0x1000; len = 1 }) ∷ replicate 14 blank_segment ++ (record { state = 1; start = 0x1001; len = 1 }) ∷ []

-- The places of the slices of a history.
abbrev pub places_of : TablePair → List CsEntry → List ℕ
places_of tables entries = map (λ s. s.place) (slices_among (happened_of tables entries))

-- A table whose last entry is enabled and has the four bytes at 0xFEDCBA98, and a wakeup with these bytes.
abbrev pub far_entry : List Segment
far_entry = replicate 15 blank_segment ++ (record { state = 1; start = 0xFEDCBA98; len = 4 }) ∷ []

abbrev pub far_wakeup : ℕ → List (List ℕ) → Input
far_wakeup time commands = record {
  time = time;
  commands = commands;
  seen = record { areas = (record { region = record { kind = Ram; start = 0xFEDCBA98; len = 4 }; bytes = 0xA1 ∷ 0xB2 ∷ 0xC3 ∷ 0xD4 ∷ [] }) ∷ []; guarded = false ∷ [] };
}

-- The report of its baseline, and what answers it at the time 0x01020304.
abbrev pub far_report : List ℕ
far_report = for_entry 8 0xA4 (0 ∷ 1 ∷ 0 ∷ 0x10 ∷ [])

abbrev pub far_baseline : List ℕ
far_baseline =
    8 ∷ 0xA5 ∷ 0xC0 ∷ 0 ∷ 0 ∷ 0x0D ∷ 1 ∷ 2 ∷ 3 ∷ 4 ∷ 0 ∷ 0
    ∷ 0 ∷ 1 ∷ 0 ∷ 0x10 ∷ 0 ∷ 1 ∷ 0x74 ∷ 0xD3 ∷ []

abbrev pub far_event : List ℕ
far_event =
    8 ∷ 8 ∷ 0xC0 ∷ 0 ∷ 0 ∷ 0x25 ∷ 1 ∷ 2 ∷ 3 ∷ 4 ∷ 0 ∷ 0
    ∷ 0x43 ∷ 0x53 ∷ 0 ∷ 0 ∷ 0 ∷ 0 ∷ 0 ∷ 0 ∷ 0 ∷ 0 ∷ 0 ∷ 0 ∷ 0 ∷ 0 ∷ 0 ∷ 0 ∷ 0 ∷ 0 ∷ 0 ∷ 0
    ∷ 0 ∷ 0x18 ∷ 0 ∷ 2 ∷ 0 ∷ 0 ∷ 0 ∷ 0x42 ∷ 0 ∷ 0 ∷ 0 ∷ 1 ∷ []
