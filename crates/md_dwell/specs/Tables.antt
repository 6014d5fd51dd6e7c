-- Dwell tables, and the payloads that spell them.
use Rattle.std.specs.Prelude.{ℕ, ◌+◌, ◌*◌, ◌%◌, ◌==◌, Bool, false, not, ◌||◌, nat_lt, if◌then◌else◌, List, map, replicate, Option, Some, None}
use Rattle.std.specs.List.{range_with_len}
use Rattle.packet_forms.specs.Numbers.{be16_at, be32_at}
use Rattle.table_files.specs.Entries.{first_fault}
use Rattle.table_files.specs.declared.fault.EntryFault.{EntryFault}
use Rattle.md_dwell.specs.declared.tables.DwellEntry.{DwellEntry}

-- A dwell table: whether it is enabled, and its 25 entries.
pub record DwellTable : Type 0 where
  pub enabled : Bool
  pub entries : List DwellEntry

-- The entry in place i of a payload, from 0: it has 8 bytes, behind the 4 bytes of the enabled flag and a reserved number.
abbrev pub entry_at : List ℕ → ℕ → DwellEntry
entry_at payload i = record { len = be16_at payload (4 + 8 * i); delay = be16_at payload (6 + 8 * i); at = be32_at payload (8 + 8 * i) }

-- The 25 entries of a payload.
unfoldable pub entries_in : List ℕ → List DwellEntry
entries_in payload = map (entry_at payload) (range_with_len 0 25)

-- Whether an entry may have this length.
abbrev pub is_length : ℕ → Bool
is_length len = (len == 0) || (len == 1) || (len == 2) || (len == 4)

-- Whether an entry's address is a multiple of its length. An entry of length 0 has no alignment to meet.
abbrev pub is_aligned : DwellEntry → Bool
is_aligned e = (e.len == 0) || (e.at % e.len == 0)

-- The least reason to refuse an entry: 1 its length, 3 its alignment.
unfoldable pub entry_reason : DwellEntry → Option ℕ
entry_reason e = if not (is_length e.len) then Some 1 else if is_aligned e then None else Some 3

-- The fault of a payload: reason 2 with entry 0 where the enabled flag is over 1, or else that of its first faulty entry.
unfoldable pub dwell_fault_of : List ℕ → Option EntryFault
dwell_fault_of payload = if nat_lt 1 (be16_at payload 0) then Some (record { entry = 0; reason = 2 }) else first_fault entry_reason 1 (entries_in payload)

-- The table that a payload without fault spells.
unfoldable pub dwell_of : List ℕ → DwellTable
dwell_of payload = record { enabled = be16_at payload 0 == 1; entries = entries_in payload }

-- An entry of length 0.
abbrev pub blank_entry : DwellEntry
blank_entry = record { len = 0; delay = 0; at = 0 }

-- A table that isn't enabled and has no entries of other length than 0.
unfoldable pub blank_table : DwellTable
blank_table = record { enabled = false; entries = replicate 25 blank_entry }
