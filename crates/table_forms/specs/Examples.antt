-- The examples of docs/FILES.md as texts and as files, byte by byte.
use Rattle.std.specs.Prelude.{ℕ, List, [], ◌∷◌, ◌++◌, replicate, codes, None}
use Rattle.telecommands.specs.Dictionary.{dictionary}
use Rattle.table_files.specs.declared.kinds.TableKind.{TableKind}
use Rattle.table_files.specs.declared.kinds.TableKind.TheVariants.{AppMon, EventMon, ExeCount, MsgActs, Ats, Rts, Dwell, Memory, Wdt, Adt}
use Rattle.table_forms.specs.declared.forms.TextForms.{TextForms}
use Rattle.table_forms.specs.Layouts.{all_layouts}

pub record Example : Type 0 where
  pub kind : TableKind
  pub text : List ℕ
  pub file : List ℕ

-- lines, each with its LF
abbrev pub joined : List (List ℕ) → List ℕ
joined [] = []
joined (line ∷ more) = line ++ 10 ∷ joined more

-- a table's file: both headers, with the number of bytes and a name that has so many zero bytes behind it, and a payload
abbrev pub headed : List ℕ → List ℕ → ℕ → List ℕ → List ℕ
headed size name zeros payload =
    (0x63 ∷ 0x46 ∷ 0x45 ∷ 0x31 ∷ 0x00 ∷ 0x00 ∷ 0x00 ∷ 0x08 ∷ []) ++ (replicate 64 0 ++ (size ++ (name ++ (replicate zeros 0 ++ payload))))

-- the commands and layouts that are known, and no epoch
abbrev pub known_forms : TextForms
known_forms = record { epoch = None; commands = record { ref_ptr = (0, 0); now = dictionary }; layouts = record { ref_ptr = (0, 0); now = all_layouts } }

-- two bytes at 0x1000, three wakeups later one byte at 0x1002, seven wakeups later the next round
unfoldable pub dwell_example : Example
dwell_example = record {
  kind = Dwell 1;
  text = joined (codes "table MD.DWELL_TABLE1" ∷ codes "head enabled=1 spare=0" ∷ codes "1 length=2 delay=3 address=0x00001000" ∷ codes "2 length=1 delay=7 address=0x00001002" ∷ codes "end" ∷ []);
  file = headed (0x00 ∷ 0x00 ∷ 0x00 ∷ 0xCC ∷ []) (codes "MD.DWELL_TABLE1") 25 ((0x00 ∷ 0x01 ∷ 0x00 ∷ 0x00 ∷ 0x00 ∷ 0x02 ∷ 0x00 ∷ 0x03 ∷ 0x00 ∷ 0x00 ∷ 0x10 ∷ 0x00 ∷ 0x00 ∷ 0x01 ∷ 0x00 ∷ 0x07 ∷ 0x00 ∷ 0x00 ∷ 0x10 ∷ 0x02 ∷ []) ++ replicate 184 0);
}

-- 2,500 bytes from 0x10000
unfoldable pub checksum_example : Example
checksum_example = record {
  kind = Memory;
  text = joined (codes "table CS.DefMemoryTbl" ∷ codes "1 state=enabled start=0x00010000 length=2500" ∷ codes "end" ∷ []);
  file = headed (0x00 ∷ 0x00 ∷ 0x00 ∷ 0xC0 ∷ []) (codes "CS.DefMemoryTbl") 25 ((0x00 ∷ 0x01 ∷ 0x00 ∷ 0x00 ∷ 0x00 ∷ 0x01 ∷ 0x00 ∷ 0x00 ∷ 0x00 ∷ 0x00 ∷ 0x09 ∷ 0xC4 ∷ []) ++ replicate 180 0);
}

-- a restart of LOAD behind three checks without a change of its counter
unfoldable pub apps_example : Example
apps_example = record {
  kind = AppMon;
  text = joined (codes "table HS.AppMon_Tbl" ∷ codes "1 app=LOAD cycles=3 action=restart" ∷ codes "end" ∷ []);
  file = headed (0x00 ∷ 0x00 ∷ 0x03 ∷ 0x00 ∷ []) (codes "HS.AppMon_Tbl") 27 ((0x4C ∷ 0x4F ∷ 0x41 ∷ 0x44 ∷ 0x00 ∷ 0x00 ∷ 0x00 ∷ 0x00 ∷ 0x00 ∷ 0x00 ∷ 0x00 ∷ 0x00 ∷ 0x00 ∷ 0x00 ∷ 0x00 ∷ 0x00 ∷ 0x00 ∷ 0x00 ∷ 0x00 ∷ 0x00 ∷ 0x00 ∷ 0x03 ∷ 0x00 ∷ 0x02 ∷ []) ++ replicate 744 0);
}

-- message action 1 at event 4 of MM
unfoldable pub events_example : Example
events_example = record {
  kind = EventMon;
  text = joined (codes "table HS.EventMon_Tbl" ∷ codes "1 app=MM event=4 action=message1" ∷ codes "end" ∷ []);
  file = headed (0x00 ∷ 0x00 ∷ 0x01 ∷ 0x80 ∷ []) (codes "HS.EventMon_Tbl") 25 ((0x4D ∷ 0x4D ∷ 0x00 ∷ 0x00 ∷ 0x00 ∷ 0x00 ∷ 0x00 ∷ 0x00 ∷ 0x00 ∷ 0x00 ∷ 0x00 ∷ 0x00 ∷ 0x00 ∷ 0x00 ∷ 0x00 ∷ 0x00 ∷ 0x00 ∷ 0x00 ∷ 0x00 ∷ 0x00 ∷ 0x00 ∷ 0x04 ∷ 0x00 ∷ 0x04 ∷ []) ++ replicate 360 0);
}

-- the counter of LOAD
unfoldable pub counters_example : Example
counters_example = record {
  kind = ExeCount;
  text = joined (codes "table HS.ExeCount_Tbl" ∷ codes "1 app=LOAD type=1" ∷ codes "end" ∷ []);
  file = headed (0x00 ∷ 0x00 ∷ 0x02 ∷ 0xC0 ∷ []) (codes "HS.ExeCount_Tbl") 25 ((0x4C ∷ 0x4F ∷ 0x41 ∷ 0x44 ∷ 0x00 ∷ 0x00 ∷ 0x00 ∷ 0x00 ∷ 0x00 ∷ 0x00 ∷ 0x00 ∷ 0x00 ∷ 0x00 ∷ 0x00 ∷ 0x00 ∷ 0x00 ∷ 0x00 ∷ 0x00 ∷ 0x00 ∷ 0x00 ∷ 0x00 ∷ 0x01 ∷ []) ++ replicate 682 0);
}

-- a no-op of MM, and a cooldown of 3
unfoldable pub actions_example : Example
actions_example = record {
  kind = MsgActs;
  text = joined (codes "table HS.MsgActs_Tbl" ∷ codes "1 state=enabled cooldown=3 mm.no_op" ∷ codes "end" ∷ []);
  file = headed (0x00 ∷ 0x00 ∷ 0x02 ∷ 0x20 ∷ []) (codes "HS.MsgActs_Tbl") 26 ((0x00 ∷ 0x01 ∷ 0x00 ∷ 0x03 ∷ 0x18 ∷ 0x88 ∷ 0xC0 ∷ 0x00 ∷ 0x00 ∷ 0x01 ∷ 0x00 ∷ 0xAE ∷ []) ++ replicate 532 0);
}

-- whether the byte at offset 20 of a peek packet is over 5
unfoldable pub watch_example : Example
watch_example = record {
  kind = Wdt;
  text = joined (codes "table LC.WDT_Tbl" ∷ codes "1 type=u8 id=0x088A offset=20 operator=> mask=0xFFFFFFFF limit=5" ∷ codes "end" ∷ []);
  file = headed (0x00 ∷ 0x00 ∷ 0x02 ∷ 0x00 ∷ []) (codes "LC.WDT_Tbl") 30 ((0x00 ∷ 0x01 ∷ 0x08 ∷ 0x8A ∷ 0x00 ∷ 0x14 ∷ 0x00 ∷ 0x06 ∷ 0xFF ∷ 0xFF ∷ 0xFF ∷ 0xFF ∷ 0x00 ∷ 0x00 ∷ 0x00 ∷ 0x05 ∷ []) ++ replicate 496 0);
}

-- relative sequence 2 where watchpoint 1 is true in two wakeups in a row
unfoldable pub points_example : Example
points_example = record {
  kind = Adt;
  text = joined (codes "table LC.ADT_Tbl" ∷ codes "1 state=active sequence=2 failures=2 when=w1" ∷ codes "end" ∷ []);
  file = headed (0x00 ∷ 0x00 ∷ 0x02 ∷ 0x80 ∷ []) (codes "LC.ADT_Tbl") 30 ((0x00 ∷ 0x01 ∷ 0x00 ∷ 0x02 ∷ 0x00 ∷ 0x02 ∷ 0x00 ∷ 0x01 ∷ 0x00 ∷ 0x00 ∷ []) ++ replicate 630 0);
}

-- MM's no-op as command 3 at the time 1002
unfoldable pub absolute_example : Example
absolute_example = record {
  kind = Ats 1;
  text = joined (codes "table SC.ATS_TBL1" ∷ codes "command number=3 time=1002 mm.no_op" ∷ codes "end" ∷ []);
  file = headed (0x00 ∷ 0x00 ∷ 0x00 ∷ 0x0E ∷ []) (codes "SC.ATS_TBL1") 29 (0x00 ∷ 0x03 ∷ 0x00 ∷ 0x00 ∷ 0x03 ∷ 0xEA ∷ 0x18 ∷ 0x88 ∷ 0xC0 ∷ 0x00 ∷ 0x00 ∷ 0x01 ∷ 0x00 ∷ 0xAE ∷ []);
}

-- MM's no-op five seconds behind the start
unfoldable pub relative_example : Example
relative_example = record {
  kind = Rts 2;
  text = joined (codes "table SC.RTS_TBL002" ∷ codes "command after=5 mm.no_op" ∷ codes "end" ∷ []);
  file = headed (0x00 ∷ 0x00 ∷ 0x00 ∷ 0x0A ∷ []) (codes "SC.RTS_TBL002") 27 (0x00 ∷ 0x05 ∷ 0x18 ∷ 0x88 ∷ 0xC0 ∷ 0x00 ∷ 0x00 ∷ 0x01 ∷ 0x00 ∷ 0xAE ∷ []);
}

-- the examples of placed entries, and those with telecommands
unfoldable pub placed_examples : List Example
placed_examples =
    dwell_example ∷ checksum_example ∷ apps_example ∷ events_example ∷ counters_example ∷ watch_example ∷ points_example ∷ []

unfoldable pub command_examples : List Example
command_examples = actions_example ∷ absolute_example ∷ relative_example ∷ []
