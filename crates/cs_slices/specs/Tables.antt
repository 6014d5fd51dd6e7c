-- Checksum tables, and the payloads that spell them.
use Rattle.std.specs.Prelude.{ℕ, ◌+◌, ◌-◌, ◌*◌, ◌==◌, not, ◌&&◌, nat_lt, if◌then◌else◌, List, map, replicate, slice_index_or, Option, Some, None}
use Rattle.std.specs.List.{range_with_len}
use Rattle.packet_forms.specs.Numbers.{be16_at, be32_at}
use Rattle.table_files.specs.Entries.{first_fault}
use Rattle.table_files.specs.declared.fault.EntryFault.{EntryFault}
use Rattle.cs_slices.specs.declared.segments.Segment.{Segment}

-- The entry in place i of a payload, from 0: it has 12 bytes.
abbrev pub segment_at : List ℕ → ℕ → Segment
segment_at payload i = record { state = be16_at payload (12 * i); start = be32_at payload (12 * i + 4); len = be32_at payload (12 * i + 8) }

-- The 16 entries of a payload.
unfoldable pub segments_of : List ℕ → List Segment
segments_of payload = map (segment_at payload) (range_with_len 0 16)

-- The least reason to refuse an entry: 1 its state is over 2, 2 it isn't empty and has length 0.
unfoldable pub segment_reason : Segment → Option ℕ
segment_reason s =
    if nat_lt 2 s.state then Some 1
    else if not (s.state == 0) && (s.len == 0) then Some 2
    else None

-- The fault of a payload: that of its first faulty entry.
unfoldable pub segments_fault_of : List ℕ → Option EntryFault
segments_fault_of payload = first_fault segment_reason 1 (segments_of payload)

-- An empty entry.
abbrev pub blank_segment : Segment
blank_segment = record { state = 0; start = 0; len = 0 }

-- A table of empty entries.
unfoldable pub blank_segments : List Segment
blank_segments = replicate 16 blank_segment

-- Both tables of CS: EEPROM's, which is table 1, and memory's, which is table 2.
pub record TablePair : Type 0 where
  pub eeprom : List Segment
  pub memory : List Segment

abbrev pub pair_of : List Segment → List Segment → TablePair
pair_of eeprom memory = record { eeprom = eeprom; memory = memory }

-- The table of a number.
abbrev pub table_named : ℕ → TablePair → List Segment
table_named n tables = if n == 1 then tables.eeprom else tables.memory

-- Both tables, with this one as table n.
abbrev pub with_table : ℕ → List Segment → TablePair → TablePair
with_table n table tables = pair_of (if n == 1 then table else tables.eeprom) (if n == 2 then table else tables.memory)

-- The entry in a place of both tables, from 0: the EEPROM table's 16 and then the memory table's 16.
unfoldable pub entry_in : TablePair → ℕ → Segment
entry_in tables place = if nat_lt place 16 then slice_index_or tables.eeprom place blank_segment else slice_index_or tables.memory (place - 16) blank_segment
