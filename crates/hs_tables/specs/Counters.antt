-- Execution counters.
use Rattle.std.specs.Prelude.{ℕ, ◌+◌, ◌*◌, ◌==◌, Bool, not, ◌&&◌, nat_lt, if◌then◌else◌, List, replicate, Option, Some, None, is_none}
use Rattle.packet_forms.specs.Numbers.{be16_at}
use Rattle.table_files.specs.Entries.{first_fault, entries_in}
use Rattle.table_files.specs.declared.fault.EntryFault.{EntryFault}
use Rattle.hs_tables.specs.Names.{name_in}
use Rattle.hs_tables.specs.declared.counters.CountRow.{CountRow}

-- The entry in place i of a payload, from 0: it has 22 bytes, the first 20 of which are its name's.
abbrev pub row_at : List ℕ → ℕ → CountRow
row_at payload i = record { name = name_in payload (22 * i); sort = be16_at payload (22 * i + 20) }

-- The 32 entries of a payload.
unfoldable pub rows_of : List ℕ → List CountRow
rows_of payload = entries_in row_at 32 payload

-- Whether an entry is used: its type isn't 0.
abbrev pub is_used : CountRow → Bool
is_used row = not (row.sort == 0)

-- The name of a row, where it is used.
abbrev pub entry_of : CountRow → Option (List ℕ)
entry_of row = if is_used row then row.name else None

-- The least reason to refuse an entry: 1 a used entry has no name, 3 its type is over 4, used or not.
unfoldable pub row_reason : CountRow → Option ℕ
row_reason row =
    if is_used row && is_none row.name then Some 1
    else if nat_lt 4 row.sort then Some 3
    else None

-- The fault of a payload: that of its first faulty entry.
unfoldable pub rows_fault_of : List ℕ → Option EntryFault
rows_fault_of payload = first_fault row_reason 1 (rows_of payload)

-- An unused entry, and a table of them.
abbrev pub blank_row : CountRow
blank_row = record { name = None; sort = 0 }

unfoldable pub blank_rows : List CountRow
blank_rows = replicate 32 blank_row
