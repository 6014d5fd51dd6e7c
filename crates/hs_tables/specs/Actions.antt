-- Message actions.
use Rattle.std.specs.Prelude.{ℕ, ◌+◌, ◌*◌, ◌==◌, Bool, not, ◌&&◌, nat_le, nat_lt, if◌then◌else◌, List, replicate, take, drop, Option, Some, None, is_none, option_map}
use Rattle.packet_forms.specs.Numbers.{be16_at}
use Rattle.packet_forms.specs.Packets.{length_field}
use Rattle.packet_forms.specs.Faults.{fault_of}
use Rattle.table_files.specs.Entries.{first_fault, entries_in}
use Rattle.table_files.specs.declared.fault.EntryFault.{EntryFault}
use Rattle.hs_tables.specs.declared.actions.ActRow.{ActRow}
use Rattle.hs_tables.specs.declared.actions.ActEntry.{ActEntry}

-- The packet that begins an entry's area of 64 bytes, where its length field says at most so many: the bytes behind it aren't looked at.
unfoldable pub packet_in : List ℕ → Option (List ℕ)
packet_in area =
    if nat_le (length_field area + 7) 64 && is_none (fault_of (take (length_field area + 7) area)) then Some (take (length_field area + 7) area) else None

-- The entry in place i of a payload, from 0: it has 68 bytes.
abbrev pub row_at : List ℕ → ℕ → ActRow
row_at payload i = record { state = be16_at payload (68 * i); cooldown = be16_at payload (68 * i + 2); packet = packet_in (take 64 (drop (68 * i + 4) payload)) }

-- The 8 entries of a payload.
unfoldable pub rows_of : List ℕ → List ActRow
rows_of payload = entries_in row_at 8 payload

-- Whether an entry is used: its state isn't 0.
abbrev pub is_used : ActRow → Bool
is_used row = not (row.state == 0)

-- The entry that a row is, where it is used.
abbrev pub entry_of : ActRow → Option ActEntry
entry_of row = if is_used row then option_map (λ packet. let entry : ActEntry = record { state = row.state; cooldown = row.cooldown; packet = packet } in entry) row.packet else None

-- The least reason to refuse an entry: 4 a used entry has no packet, 5 its state is over 2.
unfoldable pub row_reason : ActRow → Option ℕ
row_reason row =
    if is_used row && is_none row.packet then Some 4
    else if nat_lt 2 row.state then Some 5
    else None

-- The fault of a payload: that of its first faulty entry.
unfoldable pub rows_fault_of : List ℕ → Option EntryFault
rows_fault_of payload = first_fault row_reason 1 (rows_of payload)

-- An unused entry, and a table of them.
abbrev pub blank_row : ActRow
blank_row = record { state = 0; cooldown = 0; packet = None }

unfoldable pub blank_rows : List ActRow
blank_rows = replicate 8 blank_row
