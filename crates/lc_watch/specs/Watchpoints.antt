-- Watchpoints, and the payloads that spell their table.
use Rattle.std.specs.Prelude.{ℕ, ◌+◌, ◌*◌, ◌==◌, Bool, not, ◌&&◌, nat_lt, if◌then◌else◌, List, replicate, slice_index_or, Option, Some, None, is_none}
use Rattle.packet_forms.specs.Numbers.{be16_at, be32_at}
use Rattle.table_files.specs.Entries.{first_fault, entries_in}
use Rattle.table_files.specs.declared.fault.EntryFault.{EntryFault}
use Rattle.lc_watch.specs.declared.watchpoints.Operator.{Operator}
use Rattle.lc_watch.specs.declared.watchpoints.Operator.TheVariants.{Less, LessOrEqual, NotEqual, Equal, GreaterOrEqual, Greater}
use Rattle.lc_watch.specs.declared.watchpoints.WatchRow.{WatchRow}

-- The operator of a number.
abbrev pub operator_of : ℕ → Option Operator
operator_of number =
    if number == 1 then Some Less
    else if number == 2 then Some LessOrEqual
    else if number == 3 then Some NotEqual
    else if number == 4 then Some Equal
    else if number == 5 then Some GreaterOrEqual
    else if number == 6 then Some Greater
    else None

-- The entry in place i of a payload, from 0: it has 16 bytes.
abbrev pub row_at : List ℕ → ℕ → WatchRow
row_at payload i = record {
  kind = be16_at payload (16 * i);
  id = be16_at payload (16 * i + 2);
  offset = be16_at payload (16 * i + 4);
  operator = operator_of (be16_at payload (16 * i + 6));
  mask = be32_at payload (16 * i + 8);
  limit = be32_at payload (16 * i + 12);
}

-- The 32 entries of a payload.
unfoldable pub rows_of : List ℕ → List WatchRow
rows_of payload = entries_in row_at 32 payload

-- Whether an entry is used: its type isn't 0.
abbrev pub is_used : WatchRow → Bool
is_used row = not (row.kind == 0)

-- The least reason to refuse an entry: 1 its type is over 3, 2 it is used and its operator isn't 1 to 6.
unfoldable pub row_reason : WatchRow → Option ℕ
row_reason row =
    if nat_lt 3 row.kind then Some 1
    else if is_used row && is_none row.operator then Some 2
    else None

-- The fault of a payload: that of its first faulty entry.
unfoldable pub rows_fault_of : List ℕ → Option EntryFault
rows_fault_of payload = first_fault row_reason 1 (rows_of payload)

-- An unused entry, and a table of them.
abbrev pub blank_row : WatchRow
blank_row = record { kind = 0; id = 0; offset = 0; operator = None; mask = 0; limit = 0 }

unfoldable pub blank_rows : List WatchRow
blank_rows = replicate 32 blank_row

-- The watchpoint in a place of a table, from 0.
abbrev pub watch_at : List WatchRow → ℕ → WatchRow
watch_at rows place = slice_index_or rows place blank_row
