-- What a history of MD has: what it begins with, which is its four tables, and its entries, the oldest first.
use Rattle.std.specs.Prelude.{ℕ, ◌-◌, ◌==◌, Bool, false, if◌then◌else◌, List, [], map, length, slice_index_or, Option, Some, None}
use Rattle.std.specs.List.{flat_map, range_with_len}
use Rattle.histories.specs.Words.{from_last}
use Rattle.histories.specs.Entries.{Entry, wakeups, in_force, wakeups_before}
use Rattle.histories.specs.Entries.Entry.{Woken, Activated}
use Rattle.memory_window.specs.Memory.{Memory}
use Rattle.md_dwell.specs.Tables.{DwellTable, blank_table}
use Rattle.md_dwell.specs.Orders.{Input, ordered_at, starts_in}
use Rattle.md_dwell.specs.declared.instructions.Instruction.{Instruction}

-- A table that becomes active: which of the four it is, from 1, with all that it holds.
pub record Activation : Type 0 where
  pub number : ℕ
  pub table : DwellTable

abbrev pub activation_of : ℕ → DwellTable → Activation
activation_of n table = record { number = n; table = table }

-- An entry of a history is a wakeup with what is read in it, or an activation.
abbrev pub MdEntry : Type 0
MdEntry = Entry Input Activation

-- Table n of the four, from 1.
abbrev pub table_of : List DwellTable → ℕ → DwellTable
table_of tables n = slice_index_or tables (n - 1) blank_table

-- The table n that an activation has.
abbrev pub table_in : ℕ → Activation → Option DwellTable
table_in n a = if a.number == n then Some a.table else None

-- Table n in force behind these entries: that of its last activation, or of the beginning.
abbrev pub table_after : List DwellTable → List MdEntry → ℕ → DwellTable
table_after tables entries n = in_force (table_in n) (table_of tables n) entries

-- The four tables in force behind these entries.
abbrev pub tables_after : List DwellTable → List MdEntry → List DwellTable
tables_after tables entries = map (table_after tables entries) (range_with_len 1 4)

-- Whether an entry is an activation of table n.
abbrev pub activates : ℕ → MdEntry → Bool
activates n (Woken input) = false
activates n (Activated a) = a.number == n

-- What was ordered in an entry, and in all entries since the last activation of table n, or from the first on where there is none.
abbrev pub orders_at : MdEntry → List Instruction
orders_at (Woken input) = ordered_at input
orders_at (Activated a) = []

unfoldable pub orders_since : ℕ → List MdEntry → List Instruction
orders_since n entries = flat_map orders_at (from_last (activates n) entries)

-- Whether the stream of table n starts anew with an entry: a wakeup with an order that starts it, or an activation of the table.
abbrev pub restarts : ℕ → MdEntry → Bool
restarts n (Woken input) = starts_in n (ordered_at input)
restarts n (Activated a) = a.number == n

-- The number of the wakeup in which the stream of table n last started: as many wakeups as there were before the entry with which it did,
-- so of an activation it is the next wakeup. 0 where it never did.
unfoldable pub started_at : ℕ → List MdEntry → ℕ
started_at n entries = wakeups_before (restarts n) entries

-- The number of the wakeup in which the stream of table n last started, at a place in the next wakeup: that wakeup where an order in it so far
-- starts the stream.
abbrev pub started_by : ℕ → List MdEntry → List Instruction → ℕ
started_by n entries orders = if starts_in n orders then length (wakeups entries) else started_at n entries

-- The image of each wakeup.
unfoldable pub images_of : List MdEntry → List Memory
images_of entries = map (λ input. input.seen) (wakeups entries)
