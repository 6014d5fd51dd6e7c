-- Application monitors.
use Rattle.std.specs.Prelude.{ℕ, ◌+◌, ◌*◌, ◌==◌, ◌<◌, ◌≤◌, Bool, not, ◌&&◌, nat_lt, if◌then◌else◌, List, replicate, Option, Some, None, is_none, option_map}
use Rattle.std.specs.List.{All}
use Rattle.packet_forms.specs.Numbers.{be16_at}
use Rattle.table_files.specs.Entries.{first_fault, entries_in}
use Rattle.table_files.specs.declared.fault.EntryFault.{EntryFault}
use Rattle.hs_tables.specs.Names.{name_in}
use Rattle.hs_tables.specs.declared.apps.AppRow.{AppRow}
use Rattle.hs_tables.specs.declared.apps.AppEntry.{AppEntry}

-- The entry in place i of a payload, from 0: it has 24 bytes, the first 20 of which are its name's.
abbrev pub row_at : List ℕ → ℕ → AppRow
row_at payload i = record { name = name_in payload (24 * i); cycles = be16_at payload (24 * i + 20); action = be16_at payload (24 * i + 22) }

-- The 32 entries of a payload.
unfoldable pub rows_of : List ℕ → List AppRow
rows_of payload = entries_in row_at 32 payload

-- Whether an entry is used: neither its cycle count nor its action is 0.
abbrev pub is_used : AppRow → Bool
is_used row = not (row.cycles == 0) && not (row.action == 0)

-- The entry that a row is, where it is used.
abbrev pub entry_of : AppRow → Option AppEntry
entry_of row = if is_used row then option_map (λ name. let entry : AppEntry = record { name = name; cycles = row.cycles; action = row.action } in entry) row.name else None

-- A used entry has a cycle count and an action that there is.
abbrev pub IsAble : AppEntry → Type 0
IsAble entry = (0 < entry.cycles) × (1 ≤ entry.action) × (entry.action ≤ 11)

-- Each entry of a table has an action that there is, or 0.
abbrev pub AreListed : List AppRow → Type 0
AreListed rows = All (λ (row : AppRow). row.action ≤ 11) rows

-- The least reason to refuse an entry: 1 a used entry has no name, 2 its action is over 11, used or not.
unfoldable pub row_reason : AppRow → Option ℕ
row_reason row =
    if is_used row && is_none row.name then Some 1
    else if nat_lt 11 row.action then Some 2
    else None

-- The fault of a payload: that of its first faulty entry.
unfoldable pub rows_fault_of : List ℕ → Option EntryFault
rows_fault_of payload = first_fault row_reason 1 (rows_of payload)

-- An unused entry, and a table of them.
abbrev pub blank_row : AppRow
blank_row = record { name = None; cycles = 0; action = 0 }

unfoldable pub blank_rows : List AppRow
blank_rows = replicate 32 blank_row
