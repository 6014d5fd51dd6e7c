-- A text of each kind of table, with the entries that it means, written by hand.
use Rattle.std.specs.Prelude.{ℕ, true, List, [], ◌∷◌, ◌++◌, drop, replicate, codes, Option, Some, None, Result, Ok, Err}
use Rattle.table_files.specs.Headers.{payload_of_file}
use Rattle.table_texts.specs.Lines.{Numbered, kept_of}
use Rattle.hs_tables.specs.Apps as apps
use Rattle.hs_tables.specs.Events as events
use Rattle.hs_tables.specs.Counters as counters
use Rattle.hs_tables.specs.Actions as actions
use Rattle.hs_tables.specs.declared.apps.AppRow.{AppRow}
use Rattle.hs_tables.specs.declared.events.EventRow.{EventRow}
use Rattle.hs_tables.specs.declared.counters.CountRow.{CountRow}
use Rattle.hs_tables.specs.declared.actions.ActRow as messages
use Rattle.md_dwell.specs.Tables.{DwellTable, blank_entry}
use Rattle.cs_slices.specs.Tables.{blank_segment}
use Rattle.cs_slices.specs.declared.segments.Segment.{Segment}
use Rattle.lc_watch.specs.Watchpoints as watchpoints
use Rattle.lc_watch.specs.declared.watchpoints.WatchRow.{WatchRow}
use Rattle.lc_watch.specs.declared.watchpoints.Operator.TheVariants.{GreaterOrEqual, NotEqual}
use Rattle.lc_watch.specs.Actionpoints as actionpoints
use Rattle.lc_watch.specs.declared.expressions.Word.TheVariants.{Watch, And, Not}
use Rattle.lc_watch.specs.declared.actionpoints.ActRow.{ActRow}
use Rattle.sc_tables.specs.declared.absolute.Timed.{Timed}
use Rattle.sc_tables.specs.declared.relative.Relative.{Relative}
use Rattle.table_forms.specs.declared.fault.TableFault.{TableFault}
use Rattle.table_forms.specs.Examples.{joined, known_forms}
use Rattle.table_forms.specs.Reading.{file_said}

-- the lines behind the first one
abbrev pub behind_name : List ℕ → List Numbered
behind_name text = drop 1 (kept_of 1 text)

abbrev pub loaded_by : {E : Type 0} → (List ℕ → E) → Result (List ℕ) TableFault → Option E
loaded_by read (Ok file) = Some (read (payload_of_file file))
loaded_by read (Err fault) = None

-- what a loader reads in the file that a text says
abbrev pub loaded : {E : Type 0} → (List ℕ → E) → List ℕ → Option E
loaded read text = loaded_by read (file_said known_forms text)

-- a name of so few letters
abbrev pub named : List ℕ → ℕ → Option (List ℕ)
named text zeros = Some (text ++ replicate zeros 0)

-- the no-op of MM
abbrev pub no_op : List ℕ
no_op = 0x18 ∷ 0x88 ∷ 0xC0 ∷ 0x00 ∷ 0x00 ∷ 0x01 ∷ 0x00 ∷ 0xAE ∷ []

unfoldable pub counters_text : List ℕ
counters_text = joined (codes "table HS.ExeCount_Tbl" ∷ codes "2 app=LOAD type=1" ∷ codes "0x4 app=NAV_2 type=0x03" ∷ codes "end" ∷ [])

unfoldable pub counters_rows : List CountRow
counters_rows =
    counters.blank_row ∷ record { name = named (codes "LOAD") 16; sort = 1 } ∷ counters.blank_row
    ∷ record { name = named (codes "NAV_2") 15; sort = 3 } ∷ replicate 28 counters.blank_row

unfoldable pub apps_text : List ℕ
apps_text = joined (
    codes "table HS.AppMon_Tbl" ∷ codes "1 app=LOAD cycles=3 action=restart" ∷ codes "# A second look." ∷ codes "3 app=NAV cycles=0x0104 action=message2"
    ∷ codes "raw 4 4100000000000000000000000000000000000000000C0001" ∷ codes "end" ∷ [])

unfoldable pub apps_rows : List AppRow
apps_rows =
    record { name = named (codes "LOAD") 16; cycles = 3; action = 2 } ∷ apps.blank_row
    ∷ record { name = named (codes "NAV") 17; cycles = 260; action = 5 }
    ∷ record { name = named (codes "A") 19; cycles = 12; action = 1 } ∷ replicate 28 apps.blank_row

unfoldable pub events_text : List ℕ
events_text = joined (codes "table HS.EventMon_Tbl" ∷ codes "1 app=MM event=0x0109 action=message8" ∷ codes "2 app=NAV event=7 action=delete" ∷ codes "end" ∷ [])

unfoldable pub events_rows : List EventRow
events_rows =
    record { name = named (codes "MM") 18; id = 265; action = 11 } ∷ record { name = named (codes "NAV") 17; id = 7; action = 3 } ∷ replicate 14 events.blank_row

unfoldable pub dwell_text : List ℕ
dwell_text = joined (
    codes "table MD.DWELL_TABLE1" ∷ codes "head enabled=1 spare=0" ∷ codes "1 length=2 delay=3 address=0x01020304"
    ∷ codes "3 length=1 delay=0x0107 address=4098" ∷ codes "end" ∷ [])

unfoldable pub dwell_table : DwellTable
dwell_table = record {
  enabled = true;
  entries = record { len = 2; delay = 3; at = 0x01020304 } ∷ blank_entry ∷ record { len = 1; delay = 263; at = 0x1002 } ∷ replicate 22 blank_entry;
}

unfoldable pub checksum_text : List ℕ
checksum_text = joined (codes "table CS.DefEepromTbl" ∷ codes "2 state=disabled start=0x01020304 length=2500" ∷ codes "end" ∷ [])

unfoldable pub checksum_rows : List Segment
checksum_rows = blank_segment ∷ record { state = 2; start = 0x01020304; len = 0x9C4 } ∷ replicate 14 blank_segment

unfoldable pub watch_text : List ℕ
watch_text = joined (
    codes "table LC.WDT_Tbl" ∷ codes "1 type=u16 id=0x088A offset=20 operator=>= mask=0x01020304 limit=5"
    ∷ codes "2 type=u32 id=0x0891 offset=0x0105 operator=!= mask=0xFF limit=84281096" ∷ codes "end" ∷ [])

unfoldable pub watch_rows : List WatchRow
watch_rows =
    record { kind = 2; id = 0x088A; offset = 20; operator = Some GreaterOrEqual; mask = 0x01020304; limit = 5 }
    ∷ record { kind = 3; id = 0x0891; offset = 261; operator = Some NotEqual; mask = 255; limit = 0x05060708 }
    ∷ replicate 30 watchpoints.blank_row

unfoldable pub points_text : List ℕ
points_text = joined (codes "table LC.ADT_Tbl" ∷ codes "1 state=passive sequence=7 failures=0x0103 when=w1,w32,and,not" ∷ codes "end" ∷ [])

unfoldable pub points_rows : List ActRow
points_rows =
    record { state = 2; rts = 7; failures = 259; size = 4; words = Watch 0 ∷ Watch 31 ∷ And ∷ Not ∷ replicate 12 (Watch 0) }
    ∷ replicate 15 actionpoints.blank_row

unfoldable pub messages_text : List ℕ
messages_text = joined (codes "table HS.MsgActs_Tbl" ∷ codes "2 state=silent cooldown=0x0103 mm.no_op" ∷ codes "end" ∷ [])

unfoldable pub messages_rows : List messages.ActRow
messages_rows = actions.blank_row ∷ record { state = 2; cooldown = 259; packet = Some no_op } ∷ replicate 6 actions.blank_row

unfoldable pub absolute_text : List ℕ
absolute_text = joined (
    codes "table SC.ATS_TBL1" ∷ codes "command number=258 time=0x03040506 mm.no_op" ∷ codes "command number=3 time=1002 packet=1888C000000100AE"
    ∷ codes "end" ∷ [])

unfoldable pub absolute_commands : List Timed
absolute_commands = record { number = 0x0102; tag = 0x03040506; packet = no_op } ∷ record { number = 3; tag = 1002; packet = no_op } ∷ []

unfoldable pub relative_text : List ℕ
relative_text = joined (codes "table SC.RTS_TBL002" ∷ codes "command after=5 mm.no_op" ∷ codes "command after=0x0107 mm.no_op" ∷ codes "end" ∷ [])

unfoldable pub relative_commands : List Relative
relative_commands = record { tag = 5; packet = no_op } ∷ record { tag = 263; packet = no_op } ∷ []

-- a command, bytes that are one, a command behind them, and zero bytes at the end
unfoldable pub bytes_text : List ℕ
bytes_text = joined (
    codes "table SC.RTS_TBL003" ∷ codes "command after=5 mm.no_op" ∷ codes "raw 01071888C000000100AE" ∷ codes "command after=9 packet=1888C000000100AE"
    ∷ codes "raw 0000" ∷ codes "end" ∷ [])

unfoldable pub bytes_left : List ℕ
bytes_left = 0x01 ∷ 0x07 ∷ no_op ++ 0x00 ∷ 0x09 ∷ no_op ++ 0x00 ∷ 0x00 ∷ []

unfoldable pub bytes_commands : List Relative
bytes_commands = record { tag = 5; packet = no_op } ∷ record { tag = 263; packet = no_op } ∷ record { tag = 9; packet = no_op } ∷ []
