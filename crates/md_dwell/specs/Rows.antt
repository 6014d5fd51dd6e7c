-- Tables, wakeups and packets of the worked rows.
use Rattle.std.specs.Prelude.{ℕ, ◌+◌, ◌==◌, min, true, false, Bool, List, [], ◌∷◌, map, replicate}
use Rattle.std.specs.List.{range_with_len}
use Rattle.histories.specs.Words.{along}
use Rattle.histories.specs.Entries.Entry.{Woken, Activated}
use Rattle.bus_pipes.specs.declared.names.Out.{Out}
use Rattle.bus_pipes.specs.declared.names.Out.TheVariants.{Made}
use Rattle.memory_window.specs.Memory.{Memory}
use Rattle.memory_window.specs.declared.regions.Kind.TheVariants.{Ram}
use Rattle.md_dwell.specs.Tables.{DwellTable, blank_entry, blank_table}
use Rattle.md_dwell.specs.Orders.{Input}
use Rattle.md_dwell.specs.Histories.{MdEntry, activation_of}
use Rattle.md_dwell.specs.Step.{md_items}

-- Four bytes of RAM from 0x1000 on, of which the first three are 0xA0 + k, 0xB0 + k and 0xC0 + k.
abbrev pub bytes_in_wakeup : ℕ → Memory
bytes_in_wakeup k = record { areas = (record { region = record { kind = Ram; start = 0x1000; len = 4 }; bytes = (0xA0 + k) ∷ (0xB0 + k) ∷ (0xC0 + k) ∷ 0 ∷ [] }) ∷ []; guarded = false ∷ [] }

-- A wakeup without packets. From wakeup 2 on the bytes stay as they are.
abbrev pub quiet : ℕ → Input
quiet k = record { time = 1000 + k; commands = []; seen = bytes_in_wakeup (min k 2) }

-- A table that reads these three bytes with a delay behind the second.
abbrev pub three_entries : Bool → ℕ → DwellTable
three_entries enabled delay = record {
  enabled = enabled;
  entries = (record { len = 1; delay = 0; at = 0x1000 }) ∷ (record { len = 1; delay = delay; at = 0x1001 }) ∷ (record { len = 1; delay = 0; at = 0x1002 }) ∷ replicate 22 blank_entry;
}

-- The table of three entries, enabled, and three tables without entries.
abbrev pub three_bytes : ℕ → List DwellTable
three_bytes delay = three_entries true delay ∷ blank_table ∷ blank_table ∷ blank_table ∷ []

-- Three entries of one byte of which the last one alone delays, so that a round begins a wakeup after the last reading of the one before.
abbrev pub three_bytes_once : List DwellTable
three_bytes_once =
    (record {
      enabled = true;
      entries = (record { len = 1; delay = 0; at = 0x1000 }) ∷ (record { len = 1; delay = 0; at = 0x1001 }) ∷ (record { len = 1; delay = 1; at = 0x1002 }) ∷ replicate 22 blank_entry;
    }) ∷ blank_table ∷ blank_table ∷ blank_table ∷ []

-- Four tables without entries, of which table n alone is enabled.
abbrev pub enabled_alone : ℕ → List DwellTable
enabled_alone n = map (λ k. record { enabled = k == n; entries = replicate 25 blank_entry }) (range_with_len 1 4)

-- An enabled table that reads the third byte, and a wakeup later the first.
abbrev pub turned_round : DwellTable
turned_round = record { enabled = true; entries = (record { len = 1; delay = 1; at = 0x1002 }) ∷ (record { len = 1; delay = 0; at = 0x1000 }) ∷ replicate 23 blank_entry }

-- Wakeup k with these packets, or with none.
abbrev pub woken_with : ℕ → List (List ℕ) → MdEntry
woken_with k commands = Woken (record { time = 1000 + k; commands = commands; seen = bytes_in_wakeup k })

abbrev pub woken : ℕ → MdEntry
woken k = woken_with k []

-- The activation of table n with this table.
abbrev pub active : ℕ → DwellTable → MdEntry
active n table = Activated (activation_of n table)

-- The request for housekeeping; a start and a stop of table 1; and a jam of its third entry, which reads the first byte with delay 1.
abbrev pub request : List ℕ
request = 0x18 ∷ 0x91 ∷ 0xC0 ∷ 0 ∷ 0 ∷ 1 ∷ 0 ∷ 0xB7 ∷ []

abbrev pub start_first : List ℕ
start_first = 0x18 ∷ 0x90 ∷ 0xC0 ∷ 0 ∷ 0 ∷ 3 ∷ 2 ∷ 0xB7 ∷ 0 ∷ 1 ∷ []

abbrev pub stop_first : List ℕ
stop_first = 0x18 ∷ 0x90 ∷ 0xC0 ∷ 0 ∷ 0 ∷ 3 ∷ 3 ∷ 0xB6 ∷ 0 ∷ 1 ∷ []

abbrev pub jam_third : List ℕ
jam_third = 0x18 ∷ 0x90 ∷ 0xC0 ∷ 0 ∷ 0 ∷ 0x0D ∷ 4 ∷ 0xAC ∷ 0 ∷ 1 ∷ 0 ∷ 3 ∷ 0 ∷ 1 ∷ 0 ∷ 1 ∷ 0 ∷ 0 ∷ 0x10 ∷ 0 ∷ []

-- The packets of table n with two and with three bytes, and the housekeeping without a command, the last byte of the time below 256.
abbrev pub two_read : ℕ → ℕ → ℕ → ℕ → Out
two_read n late a b = Made (8 ∷ (0x90 + n) ∷ 0xC0 ∷ 0 ∷ 0 ∷ 0x0B ∷ 0 ∷ 0 ∷ 3 ∷ late ∷ 0 ∷ 0 ∷ 0 ∷ n ∷ 0 ∷ 2 ∷ a ∷ b ∷ [])

abbrev pub three_read : ℕ → ℕ → ℕ → ℕ → ℕ → Out
three_read n late a b c = Made (8 ∷ (0x90 + n) ∷ 0xC0 ∷ 0 ∷ 0 ∷ 0x0C ∷ 0 ∷ 0 ∷ 3 ∷ late ∷ 0 ∷ 0 ∷ 0 ∷ n ∷ 0 ∷ 3 ∷ a ∷ b ∷ c ∷ [])

abbrev pub enabled_shown : ℕ → ℕ → Out
enabled_shown late enabled = Made (8 ∷ 0x90 ∷ 0xC0 ∷ 0 ∷ 0 ∷ 9 ∷ 0 ∷ 0 ∷ 3 ∷ late ∷ 0 ∷ 0 ∷ 0 ∷ 0 ∷ enabled ∷ 0 ∷ [])

-- What is sent in each entry of a history.
abbrev pub sent_in : List DwellTable → List MdEntry → MdEntry → List Out
sent_in tables earlier (Woken input) = md_items tables earlier input
sent_in tables earlier (Activated a) = []

unfoldable pub sent_along : List DwellTable → List MdEntry → List (List Out)
sent_along tables entries = along (sent_in tables) entries

-- Four bytes of RAM at the address 0xFEDCBA98.
abbrev pub far_bytes : Memory
far_bytes = record { areas = (record { region = record { kind = Ram; start = 0xFEDCBA98; len = 4 }; bytes = 0xA1 ∷ 0xB2 ∷ 0xC3 ∷ 0xD4 ∷ [] }) ∷ []; guarded = false ∷ [] }

-- Four tables, of which the last reads all four of these bytes and then the last two, a round a wakeup.
abbrev pub far_tables : List DwellTable
far_tables =
    blank_table ∷ blank_table ∷ blank_table
    ∷ (record { enabled = true; entries = (record { len = 4; delay = 0; at = 0xFEDCBA98 }) ∷ (record { len = 2; delay = 1; at = 0xFEDCBA9A }) ∷ replicate 23 blank_entry }) ∷ []

-- A start and a stop with a mask, by their code and check.
abbrev pub masked : ℕ → ℕ → ℕ → ℕ → List ℕ
masked code check high low = 0x18 ∷ 0x90 ∷ 0xC0 ∷ 0 ∷ 0 ∷ 3 ∷ code ∷ check ∷ high ∷ low ∷ []

-- A jam, by its check and its payload.
abbrev pub jammed : ℕ → List ℕ → List ℕ
jammed check payload = 0x18 ∷ 0x90 ∷ 0xC0 ∷ 0 ∷ 0 ∷ 0x0D ∷ 4 ∷ check ∷ payload
